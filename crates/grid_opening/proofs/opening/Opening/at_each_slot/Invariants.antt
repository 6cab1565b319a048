use Rattle.std.specs.Prelude.{Ok}
use Rattle.grid_opening.specs.Openings.{Went}
use Rattle.grid_opening.proofs.SlotLemmas.{OnNodesBelow}
use Rattle.grid_opening.proofs.GoesLemmas.{done}
use Rattle.grid_opening.specs.Settling.{Clears}
use Rattle.grid_opening.proofs.opening.Opening.at_each_slot.Given as goal

abbrev pub invariant-loop-node : goal.invariant-loop-node
invariant-loop-node g l = Went g.K.Keeper.kept g.L.Listener.heard g.K.Keeper.faults l.at.0 (Clears l.work l.at.0 (OnNodesBelow l.first l.node)) l.fn.self l.self (Ok done)
