use Rattle.hub_serving.proofs.serving.serve_turns.Goals as goal

pub loop-init : goal.loop-init
loop-init g c = record {
  own = c.requires.own;
  serving = c.requires.serving;
  same = g.met.L.Link.same_refl c.args.link.now;
}

pub returns-in-Some-ended-clause-ended : goal.returns-in-Some-ended-clause-ended
returns-in-Some-ended-clause-ended g c = c.in-Some-ended.ensures.turned _ c.loop.invariant.serving
