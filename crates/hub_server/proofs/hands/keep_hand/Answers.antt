use Rattle.std.proofs.Common.{is_ok}
use Rattle.hub_server.specs.Hands.{IsHand}
use Rattle.hub_server.proofs.CrowdLemmas.{all_pushed}
use Rattle.hub_server.proofs.hands.keep_hand.Goals as goal

pub returns : goal.returns
returns g c =
    all_pushed (IsHand c.args.hub.now g.N.NodeLine.state g.N.NodeLine.gives g.N.NodeLine.asks g.C.Clock.gives g.C.Clock.view)
    (is_ok c.push.result) c.args.hands.now.items c.args.hand c.push.new.self.items c.push.ensures.items
    c.requires.all c.requires.own
