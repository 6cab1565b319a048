use Rattle.trial_core.proofs.WayLemmas.{way_start, way_on}
use Rattle.trial_core.proofs.starts.driver.carry_out.Goals as goal

pub turns-init : goal.turns-init
turns-init g c = record {
  fresh = c.new-carry.ensures.fresh;
  way = way_start g.N.NodeLink.gives c.args.reservation _ c.new-carry.result c.new-carry.ensures c.requires;
}

pub turns-preserved : goal.turns-preserved
turns-preserved g c = record {
  fresh = c.turn.ensures.fresh;
  way = way_on g.N.NodeLink.gives c.args.reservation _ _ _ c.turns.carry c.turn.new.carry c.turns.invariant.way c.in_default.ensures.turned;
}
