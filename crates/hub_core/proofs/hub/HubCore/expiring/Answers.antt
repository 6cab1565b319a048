use Rattle.hub_core.proofs.AheadLemmas.{core-expiring, core-not_expiring}
use Rattle.hub_core.proofs.hub.HubCore.expiring.Goals as goal

pub returns-in-Some : goal.returns-in-Some
returns-in-Some c =
    let proved = c.history_laws.ensures in
    core-expiring proved c.args.self.now c.args.at.0 c.raised-now.result c.in-Some.idle c.in-Some.ensures c.raised-now.ensures

pub returns-in-None : goal.returns-in-None
returns-in-None c = core-not_expiring c.args.self.now c.args.at.0 c.raised-now.result c.in-None.ensures c.raised-now.ensures
