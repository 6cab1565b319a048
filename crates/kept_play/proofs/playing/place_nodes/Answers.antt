use Rattle.std.proofs.Common.{inl, inr}
use Rattle.grid_outside.specs.Counts.{Rose}
use Rattle.hub_core.specs.HubView.{past}
use Rattle.kept_play.proofs.PlaceLemmas.{placed_first}
use Rattle.kept_play.proofs.StatusLemmas.{blames_keeper, stop_of}
use Rattle.kept_play.proofs.playing.place_nodes.Goals as goal

pub returns-in-Ok-true-clause-placed : goal.returns-in-Ok-true-clause-placed
returns-in-Ok-true-clause-placed g c =
    placed_first c.in-Ok-true.field-0 c.args.hub.now.hub.config 1 c.args.played.now (past c.args.hub.now.hub) c.new-own.result.items c.place_all.new.own.items (past c.place_all.new.hub.hub) c.in-Ok-true.field-0-test c.new-own.ensures.items c.in-Ok-true.ensures.placed

pub returns-in-Ok-true-clause-went : goal.returns-in-Ok-true-clause-went
returns-in-Ok-true-clause-went g c = (c.in-Ok-true.ensures.goes.along c.args.hub.now c.nothing_was_called.ensures).went

pub returns-in-Ok-true-clause-runs : goal.returns-in-Ok-true-clause-runs
returns-in-Ok-true-clause-runs g c = (c.in-Ok-true.ensures.goes.along c.args.hub.now c.nothing_was_called.ensures).runs

pub returns-in-Ok-true-clause-later : goal.returns-in-Ok-true-clause-later
returns-in-Ok-true-clause-later g c = (c.in-Ok-true.ensures.goes.along c.args.hub.now c.nothing_was_called.ensures).later

pub returns-in-Ok-false-clause-went : goal.returns-in-Ok-false-clause-went
returns-in-Ok-false-clause-went g c = (c.in-Ok-false.ensures.goes.along c.args.hub.now c.nothing_was_called.ensures).went

pub returns-in-Ok-false-clause-breaks : goal.returns-in-Ok-false-clause-breaks
returns-in-Ok-false-clause-breaks g c = inl (c.in-Ok-false.ensures.goes.along c.args.hub.now c.nothing_was_called.ensures).runs

pub returns-in-Ok-false-clause-later : goal.returns-in-Ok-false-clause-later
returns-in-Ok-false-clause-later g c = (c.in-Ok-false.ensures.goes.along c.args.hub.now c.nothing_was_called.ensures).later

pub returns-in-Err-clause-went : goal.returns-in-Err-clause-went
returns-in-Err-clause-went g c = (c.in-Err.ensures.goes c.args.hub.now c.nothing_was_called.ensures).went

pub returns-in-Err-clause-breaks : goal.returns-in-Err-clause-breaks
returns-in-Err-clause-breaks g c = inr (c.in-Err.ensures.goes c.args.hub.now c.nothing_was_called.ensures).broke

pub returns-in-Err-clause-later : goal.returns-in-Err-clause-later
returns-in-Err-clause-later g c = (c.in-Err.ensures.goes c.args.hub.now c.nothing_was_called.ensures).later

pub returns-in-Err-clause-keeper : goal.returns-in-Err-clause-keeper
returns-in-Err-clause-keeper g c = blames_keeper (Rose (g.P.Keeper.faults c.args.hub.now.keeper) (g.P.Keeper.faults c.place_all.new.hub.keeper)) c.in-Err.fault c.fault_status.result c.fault_status.ensures (c.in-Err.ensures.goes c.args.hub.now c.nothing_was_called.ensures).cause

pub returns-in-Err-clause-stops : goal.returns-in-Err-clause-stops
returns-in-Err-clause-stops g c = stop_of c.in-Err.fault c.fault_status.result c.fault_status.ensures
