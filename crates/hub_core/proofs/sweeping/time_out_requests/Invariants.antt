use Rattle.std.proofs.Common.{◌+◌, ◌-◌, ◌^◌}
use Rattle.grid_types.specs.declared.entry.Change.TheVariants as change
use Rattle.grid_types.specs.HubAnswers.{overdue_requests}
use Rattle.hub_core.proofs.WalkLemmas.{IsUnderWay}
use Rattle.hub_core.proofs.sweeping.time_out_requests.Given as goal

abbrev pub invariant-loop-request : goal.invariant-loop-request
invariant-loop-request g l = (whose : g.R.Recorder.Whose) →
    IsUnderWay (λ H. overdue_requests H l.now.0) (λ n. change.TimedOut n l.now) l.fn.core (g.R.Recorder.holds l.fn.recorder whose) l.core (g.R.Recorder.holds l.recorder whose) (g.R.Recorder.caller_of whose) l.now.0 (l.last + 1) l.count

abbrev pub decreases-loop-request : goal.decreases-loop-request
decreases-loop-request g l = 2 ^ 64 - l.last
