use Rattle.std.specs.Prelude.{Ok}
use Rattle.grid_opening.specs.Openings.{Went}
use Rattle.grid_opening.proofs.SlotLemmas.{OnNodeBelow}
use Rattle.grid_opening.proofs.GoesLemmas.{done}
use Rattle.grid_opening.specs.Settling.{Clears}
use Rattle.grid_opening.proofs.opening.Opening.at_slots.Given as goal

abbrev pub invariant-loop-index : goal.invariant-loop-index
invariant-loop-index g l = Went g.K.Keeper.kept g.L.Listener.heard g.K.Keeper.faults l.at.0 (Clears l.work l.at.0 (OnNodeBelow l.node l.index)) l.fn.self l.self (Ok done)
