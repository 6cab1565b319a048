use Rattle.std.proofs.Common.{◌≡◌, ℕ, subst}
use Rattle.std.specs.Prelude.{nat_lt}
use Rattle.grid_types.specs.Lists.{least}
use Rattle.grid_types.specs.HubAnswers.{idle_bindings}
use Rattle.hub_core.proofs.hub.HubCore.idle_binding.Goals as goal

pub returns : goal.returns
returns c = record {
  of = λ H s. subst (λ (m : ℕ). c.least_idle.result ≡ least nat_lt (idle_bindings c.args.self.now.config H m)) (c.raised-now.ensures.of c.args.self.now.config H s.tables_stand s.is_legal)
      (c.least_idle.ensures.of c.args.self.now.config H s.tables_stand s.is_legal);
}
