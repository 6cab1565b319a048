use Rattle.std.proofs.Common.{[], ◌∷◌, Ok}
use Rattle.grid_types.specs.declared.entry.Change.TheVariants as change
use Rattle.grid_types.specs.Tables.{entry}
use Rattle.hub_tellers.proofs.TellLemmas.{nothing_told, one_told}
use Rattle.hub_tellers.proofs.RequestLemmas.{told_if, told_else}
use Rattle.hub_tellers.proofs.starts.told_drained.Goals as goal

pub returns-then-drains : goal.returns-then-drains
returns-then-drains c = told_if _ _ _ _ _ _ c.if-drains.true (one_told (entry c.args.caller (change.Draining c.args.node c.args.now)) _ _ _ c.draining.ensures)

pub returns-else-drains : goal.returns-else-drains
returns-else-drains c = told_else c.args.piece.now c.args.piece.now c.args.drains (entry c.args.caller (change.Draining c.args.node c.args.now) ∷ []) [] (Ok tt) c.if-drains.false (nothing_told c.args.piece.now tt)
