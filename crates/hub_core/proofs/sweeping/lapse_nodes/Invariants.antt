use Rattle.std.proofs.Common.{◌-◌, ◌^◌}
use Rattle.grid_types.specs.declared.entry.Change.TheVariants as change
use Rattle.grid_types.specs.HubAnswers.{lapsed_nodes}
use Rattle.hub_core.proofs.WalkLemmas.{IsUnderWay}
use Rattle.hub_core.proofs.sweeping.lapse_nodes.Given as goal

abbrev pub invariant-loop-node : goal.invariant-loop-node
invariant-loop-node g l = (whose : g.R.Recorder.Whose) →
    IsUnderWay (λ H. lapsed_nodes l.fn.core.config H l.now.0) (λ n. change.Lapsed n l.now) l.fn.core (g.R.Recorder.holds l.fn.recorder whose) l.core (g.R.Recorder.holds l.recorder whose) (g.R.Recorder.caller_of whose) l.now.0 l.from l.count

abbrev pub decreases-loop-node : goal.decreases-loop-node
decreases-loop-node g l = 2 ^ 32 - l.from
