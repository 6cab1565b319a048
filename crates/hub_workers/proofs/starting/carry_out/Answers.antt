use Rattle.hub_workers.proofs.WayLemmas.{way_end, way_on, way_start}
use Rattle.hub_workers.proofs.starting.carry_out.Goals as goal

pub turns-init : goal.turns-init
turns-init g c = record {
  own = c.requires.own;
  fresh = c.new-carry.ensures.fresh;
  way = way_start c.args.hub.now g.N.NodeLink.gives g.C.Clock.gives c.args.reservation _ c.new-carry.result c.new-carry.ensures c.requires.has;
}

pub turns-preserved : goal.turns-preserved
turns-preserved g c = record {
  own = c.turn.ensures.own;
  fresh = c.in_default.ensures.fresh;
  way = way_on c.args.hub.now g.N.NodeLink.gives g.C.Clock.gives c.args.reservation _ _ _ c.turns.carry c.turn.new.carry c.turns.invariant.way c.in_default.ensures.turned;
}

pub returns-in-Some-clause-carried : goal.returns-in-Some-clause-carried
returns-in-Some-clause-carried g c =
    way_end c.args.hub.now g.N.NodeLink.gives g.C.Clock.gives c.args.reservation _ _ _ c.turns.carry c.turn.new.carry c.in-Some.end c.turns.invariant.way c.in-Some.ensures.turned
