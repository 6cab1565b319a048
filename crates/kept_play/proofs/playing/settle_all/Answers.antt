use Rattle.std.proofs.Common.{ap, Err}
use Rattle.grid_outside.specs.Counts.{Rose}
use Rattle.kept_play.proofs.StatusLemmas.{blames_keeper, stop_of}
use Rattle.kept_play.proofs.playing.settle_all.Goals as goal

pub returns-in-Err-clause-keeper : goal.returns-in-Err-clause-keeper
returns-in-Err-clause-keeper g c =
    blames_keeper (Rose (g.P.Keeper.faults c.args.hub.now.keeper) (g.P.Keeper.faults c.settle.new.hub.keeper)) c.in-Err.fault c.fault_status.result c.fault_status.ensures (λ e. c.in-Err.ensures.cause (ap Err e))

pub returns-in-Err-clause-stops : goal.returns-in-Err-clause-stops
returns-in-Err-clause-stops g c = stop_of c.in-Err.fault c.fault_status.result c.fault_status.ensures
