use Rattle.std.specs.Prelude.{Ok}
use Rattle.grid_opening.specs.Openings.{Went}
use Rattle.grid_opening.proofs.SlotLemmas.{Between}
use Rattle.grid_opening.proofs.GoesLemmas.{done}
use Rattle.grid_opening.specs.Settling.{Works}
use Rattle.grid_opening.proofs.opening.Opening.at_each_request.Given as goal

abbrev pub invariant-loop-request : goal.invariant-loop-request
invariant-loop-request g l = Went g.K.Keeper.kept g.L.Listener.heard g.K.Keeper.faults l.at.0 (Works l.work l.at.0 (Between l.first l.request)) l.fn.self l.self (Ok done)
