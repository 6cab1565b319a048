use Rattle.grid_types.specs.declared.entry.Change.TheVariants as change
use Rattle.grid_types.specs.Tables.{entry}
use Rattle.hub_tellers.proofs.TellLemmas.{one_told}
use Rattle.hub_tellers.proofs.RequestLemmas.{told_if, told_else}
use Rattle.hub_tellers.proofs.requests.told_settled.Goals as goal

pub returns-then-was_settled : goal.returns-then-was_settled
returns-then-was_settled c = told_if _ _ _ _ _ _ c.if-was_settled.true (one_told (entry c.args.caller (change.Taken c.args.request c.args.now)) _ _ _ c.taken.ensures)

pub returns-else-was_settled : goal.returns-else-was_settled
returns-else-was_settled c = told_else _ _ _ _ _ _ c.if-was_settled.false c.told_late.ensures
