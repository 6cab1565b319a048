use Rattle.local_driver.proofs.CallLemmas.{goes_same}
use Rattle.local_driver.proofs.ServedLemmas.{ended_so, serving_start}
use Rattle.local_driver.proofs.serving.serve_to_end.Goals as goal

pub turns-init : goal.turns-init
turns-init g c = record {
  serving = serving_start g.N.NodeLink.gives g.C.Clock.gives c.args.own.now c.new-talk.result _ c.new-talk.ensures;
  goes = goes_same g.H.OwnHub.own c.args.hub.now c.requires;
  same = g.met.L.Link.same_refl c.args.link.now;
}

pub returns-in-Some-clause-ended : goal.returns-in-Some-clause-ended
returns-in-Some-clause-ended g c =
    ended_so g.N.NodeLink.gives g.C.Clock.gives c.args.own.now c.turns.talk c.turn.new.talk _ _ _ c.in_ok-ended.ended c.in-Some.result c.in-Some.is c.in_ok-ended.ensures.turned c.turns.invariant.serving
