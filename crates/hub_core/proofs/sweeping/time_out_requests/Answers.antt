use Rattle.std.proofs.Common.{arith, refl}
use Rattle.grid_types.specs.declared.entry.Change.TheVariants as change
use Rattle.grid_types.specs.HubAnswers.{overdue_requests}
use Rattle.hub_core.proofs.NoteLemmas.{noted, told}
use Rattle.hub_core.proofs.WalkLemmas.{walk-starts, walk-may, walk-steps, walk-ends}
use Rattle.hub_core.proofs.CoreSweepLemmas.{overdue-walks}
use Rattle.hub_core.proofs.sweeping.time_out_requests.Goals as goal

pub loop-request-init : goal.loop-request-init
loop-request-init g c =
    let proved = c.history_laws.ensures in
    λ whose. walk-starts c.args.core.now (g.R.Recorder.holds c.args.recorder.now whose) (g.R.Recorder.caller_of whose) c.args.now.0 1 (λ H. overdue_requests H c.args.now.0) (λ n. change.TimedOut n c.args.now) (overdue-walks proved c.args.core.now.config c.args.now (g.R.Recorder.caller_of whose))

pub loop-request-smaller : goal.loop-request-smaller
loop-request-smaller g c = omega (arith, c.in-Some.ensures.later)

pub record-requires : goal.record-requires
record-requires g c =
    let proved = c.history_laws.ensures in
    λ asks. walk-may g.R.Recorder.Whose g.R.Recorder.caller_of (g.R.Recorder.holds c.args.recorder.now) (g.R.Recorder.holds c.loop-request.recorder) c.args.core.now c.args.now.0 1 (λ H. overdue_requests H c.args.now.0) (λ n. change.TimedOut n c.args.now) (overdue-walks proved c.args.core.now.config c.args.now) _ _ _ c.loop-request.invariant c.in-Some.request (told c.in-Some.ensures.first) refl (c.requires asks)

pub loop-request-preserved : goal.loop-request-preserved
loop-request-preserved g c =
    let proved = c.history_laws.ensures in
    λ whose. walk-steps c.args.core.now (g.R.Recorder.holds c.args.recorder.now whose) (g.R.Recorder.caller_of whose) c.args.now.0 1 (λ H. overdue_requests H c.args.now.0) (λ n. change.TimedOut n c.args.now) (overdue-walks proved c.args.core.now.config c.args.now (g.R.Recorder.caller_of whose)) _ _ _ _ (c.loop-request.invariant whose) _ _ c.in-Some.request _ _ (told c.in-Some.ensures.first) (noted refl (c.note_timed_out.ensures (g.R.Recorder.caller_of whose))) (c.record.ensures whose) c.saturating_add-count.ensures refl

pub returns : goal.returns
returns g c =
    let proved = c.history_laws.ensures in
    λ whose. walk-ends c.args.core.now (g.R.Recorder.holds c.args.recorder.now whose) (g.R.Recorder.caller_of whose) c.args.now.0 1 (λ H. overdue_requests H c.args.now.0) (λ n. change.TimedOut n c.args.now) (overdue-walks proved c.args.core.now.config c.args.now (g.R.Recorder.caller_of whose)) _ _ _ _ (c.loop-request.invariant whose) (told c.in_default.ensures.first)
