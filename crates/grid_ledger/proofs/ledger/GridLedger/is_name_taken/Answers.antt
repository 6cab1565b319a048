use Rattle.std.proofs.Common.{ap, ◌∙◌}
use Rattle.std.specs.Prelude.{is_some}
use Rattle.grid_types.specs.History.{nodes}
use Rattle.grid_types.specs.Permitted.{is_named}
use Rattle.grid_ledger.proofs.FactLemmas.{any_found}
use Rattle.grid_ledger.proofs.ledger.GridLedger.is_name_taken.Goals as goal

pub returns : goal.returns
returns c = record {
  of = λ H s. c.is_some.ensures ∙ (ap is_some (c.registered_as.ensures.of c.args.self.now.config H s.nodes_stand s.is_legal) ∙ any_found (is_named H c.args.name.now) (nodes H));
}
