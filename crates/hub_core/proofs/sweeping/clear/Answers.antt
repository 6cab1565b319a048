use Rattle.hub_core.proofs.CoreSweepLemmas.{some-in_time, core-clears}
use Rattle.hub_core.proofs.sweeping.clear.Goals as goal

pub clear_requests-requires : goal.clear_requests-requires
clear_requests-requires g c = λ asks. some-in_time _ c.raised-now.ensures (c.requires asks)

pub returns : goal.returns
returns g c =
    let proved = c.history_laws.ensures in
    λ whose. core-clears proved _ _ _ _ _ _ _ _ c.raised-now.ensures (c.clear_requests.ensures whose)
