use Rattle.hub_core.proofs.AheadLemmas.{core-ending, core-not_ending}
use Rattle.hub_core.proofs.hub.HubCore.ending.Goals as goal

pub returns-in-Some : goal.returns-in-Some
returns-in-Some c =
    let proved = c.history_laws.ensures in
    core-ending proved c.args.self.now c.args.session.now c.args.binding c.in-Some._seat c.in-Some.ensures

pub returns-in-None : goal.returns-in-None
returns-in-None c = core-not_ending c.args.self.now c.args.session.now c.args.binding c.in-None.ensures
