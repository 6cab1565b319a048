use Rattle.std.proofs.Common.{arith, refl}
use Rattle.grid_types.specs.declared.entry.Change.TheVariants as change
use Rattle.grid_types.specs.HubAnswers.{silent_nodes}
use Rattle.hub_core.proofs.NoteLemmas.{noted, told}
use Rattle.hub_core.proofs.WalkLemmas.{walk-starts, walk-may, walk-steps, walk-ends}
use Rattle.hub_core.proofs.CoreSweepLemmas.{silent-walks, silent-told}
use Rattle.hub_core.proofs.sweeping.suspect_nodes.Goals as goal

pub loop-node-init : goal.loop-node-init
loop-node-init g c =
    let proved = c.history_laws.ensures in
    λ whose. walk-starts c.args.core.now (g.R.Recorder.holds c.args.recorder.now whose) (g.R.Recorder.caller_of whose) c.args.now.0 0 (λ H. silent_nodes c.args.core.now.config H c.args.now.0) (λ n. change.Suspected n c.args.now) (silent-walks proved c.args.core.now.config c.args.now (g.R.Recorder.caller_of whose))

pub loop-node-smaller : goal.loop-node-smaller
loop-node-smaller g c = omega (arith, c.in-Some.ensures.later)

pub record-requires : goal.record-requires
record-requires g c =
    let proved = c.history_laws.ensures in
    λ asks. walk-may g.R.Recorder.Whose g.R.Recorder.caller_of (g.R.Recorder.holds c.args.recorder.now) (g.R.Recorder.holds c.loop-node.recorder) c.args.core.now c.args.now.0 0 (λ H. silent_nodes c.args.core.now.config H c.args.now.0) (λ n. change.Suspected n c.args.now) (silent-walks proved c.args.core.now.config c.args.now) _ _ _ c.loop-node.invariant c.in-Some.node (silent-told _ _ _ _ _ (c.loop-node.invariant (c.requires asks).whose).same_config (told c.in-Some.ensures.first)) refl (c.requires asks)

pub loop-node-preserved : goal.loop-node-preserved
loop-node-preserved g c =
    let proved = c.history_laws.ensures in
    λ whose. walk-steps c.args.core.now (g.R.Recorder.holds c.args.recorder.now whose) (g.R.Recorder.caller_of whose) c.args.now.0 0 (λ H. silent_nodes c.args.core.now.config H c.args.now.0) (λ n. change.Suspected n c.args.now) (silent-walks proved c.args.core.now.config c.args.now (g.R.Recorder.caller_of whose)) _ _ _ _ (c.loop-node.invariant whose) _ _ c.in-Some.node _ _ (silent-told _ _ _ _ _ (c.loop-node.invariant whose).same_config (told c.in-Some.ensures.first)) (noted refl (c.note_suspected.ensures (g.R.Recorder.caller_of whose))) (c.record.ensures whose) c.saturating_add-count.ensures c.from-from.ensures

pub returns : goal.returns
returns g c =
    let proved = c.history_laws.ensures in
    λ whose. walk-ends c.args.core.now (g.R.Recorder.holds c.args.recorder.now whose) (g.R.Recorder.caller_of whose) c.args.now.0 0 (λ H. silent_nodes c.args.core.now.config H c.args.now.0) (λ n. change.Suspected n c.args.now) (silent-walks proved c.args.core.now.config c.args.now (g.R.Recorder.caller_of whose)) _ _ _ _ (c.loop-node.invariant whose) (silent-told _ _ _ _ _ (c.loop-node.invariant whose).same_config (told c.in_default.ensures.first))
