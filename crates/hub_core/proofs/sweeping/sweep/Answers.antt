use Rattle.hub_core.proofs.WalkLemmas.{some-after}
use Rattle.hub_core.proofs.CoreSweepLemmas.{some-in_time, core-sweeps, records-kept}
use Rattle.hub_core.proofs.sweeping.sweep.Goals as goal

pub lapse_nodes-lapsed-requires : goal.lapse_nodes-lapsed-requires
lapse_nodes-lapsed-requires g c = λ asks. some-in_time _ c.raised-now.ensures (c.requires asks)

pub suspect_nodes-suspected-requires : goal.suspect_nodes-suspected-requires
suspect_nodes-suspected-requires g c = λ asks.
    some-after _ _ _ _ _ _ _ _ _ _ c.lapse_nodes-lapsed.ensures (some-in_time _ c.raised-now.ensures (c.requires asks))

pub time_out_requests-timed_out-requires : goal.time_out_requests-timed_out-requires
time_out_requests-timed_out-requires g c = λ asks.
    some-after _ _ _ _ _ _ _ _ _ _ c.suspect_nodes-suspected.ensures (some-after _ _ _ _ _ _ _ _ _ _ c.lapse_nodes-lapsed.ensures (some-in_time _ c.raised-now.ensures (c.requires asks)))

pub remove_drained-removed-requires : goal.remove_drained-removed-requires
remove_drained-removed-requires g c = λ asks.
    some-after _ _ _ _ _ _ _ _ _ _ c.time_out_requests-timed_out.ensures (some-after _ _ _ _ _ _ _ _ _ _ c.suspect_nodes-suspected.ensures (some-after _ _ _ _ _ _ _ _ _ _ c.lapse_nodes-lapsed.ensures (some-in_time _ c.raised-now.ensures (c.requires asks))))

pub returns : goal.returns
returns g c =
    let proved = c.history_laws.ensures in
    λ whose. records-kept (core-sweeps proved _ _ _ _ _ _ _ _ _ _ _ _ _ _ _ _ _ c.raised-now.ensures (c.lapse_nodes-lapsed.ensures whose) (c.suspect_nodes-suspected.ensures whose) (c.time_out_requests-timed_out.ensures whose) (c.remove_drained-removed.ensures whose)) c.note_signs.ensures.kept
