use Rattle.std.proofs.Common.{◌≤◌, length, take}
use Rattle.journal_keeper.specs.Keeps.{Adds}
use Rattle.journal_keeper.proofs.whole.keep_all.Given as goal

abbrev pub invariant-loop : goal.invariant-loop
invariant-loop g l = record {
  within : l.at ≤ length l.piece;
  taken : Adds (g.K.Keeper.kept l.fn.keeper) (g.K.Keeper.kept l.keeper) (take l.at l.piece);
}
