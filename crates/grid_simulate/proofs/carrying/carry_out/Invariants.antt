use Rattle.std.proofs.Common.{◌≡◌, true}
use Rattle.loop_node.specs.LinkedNodes.{nodes_reached}
use Rattle.node_client.specs.Carrying.{is_fresh, work}
use Rattle.grid_simulate.specs.Carrying.{grid_of, UnderWay}
use Rattle.grid_simulate.proofs.carrying.carry_out.Given as goal

-- the start stands for the steps by which the grid went on
abbrev pub invariant-turns : goal.invariant-turns
invariant-turns l = record {
  fresh : is_fresh l.carry ≡ true;
  way : UnderWay l.at.0 l.fn.reservation (grid_of l.fn.hub (nodes_reached l.fn.nodes)) l.carry (grid_of l.hub (nodes_reached l.nodes)) l.kept;
}

abbrev pub decreases-turns : goal.decreases-turns
decreases-turns l = work l.carry
