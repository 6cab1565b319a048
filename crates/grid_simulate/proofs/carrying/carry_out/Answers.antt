use Rattle.grid_simulate.proofs.WayLemmas.{way_start, way_on}
use Rattle.grid_simulate.proofs.carrying.carry_out.Goals as goal

pub turns-init : goal.turns-init
turns-init c = record {
  fresh = c.new-carry.ensures.fresh;
  way = way_start c.args.at.0 c.args.reservation _ c.new-carry.result c.new-carry.ensures c.requires;
}

pub turns-preserved : goal.turns-preserved
turns-preserved c = record {
  fresh = c.turn.ensures.fresh;
  way = way_on c.args.at.0 c.args.reservation _ _ _ c.turns.carry c.turn.new.carry c.turns.kept c.turn.new.kept c.turns.invariant.way c.in_default.ensures.turned;
}
