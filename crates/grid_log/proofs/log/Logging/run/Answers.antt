use Rattle.std.proofs.Common.{refl, sym, ◌∙◌, ap}
use Rattle.grid_log.specs.declared.telling.Teller.{Teller}
use Rattle.grid_log.proofs.LogLemmas.{ends_as}
use Rattle.grid_log.proofs.log.Logging.run.Goals as goal

pub returns-in-Some : goal.returns-in-Some
returns-in-Some g c = record {
  goes = λ old before h.
      ends_as old _ before _ c.step.new.self.teller.form c.args.self.now.teller.form c.in-Some.status c.in-Some.status
      (c.in-Some.ensures.goes old before (c.entries.invariant.logged old before h))
      (ap (λ (t : Teller). t.form) (sym (c.step.ensures.teller ∙ c.entries.invariant.teller))) refl;
  stays = λ old before h may.
      c.in-Some.ensures.stays old before c.in-Some.status (c.entries.invariant.logged old before h) refl may;
  teller = c.step.ensures.teller ∙ c.entries.invariant.teller;
}
