use Rattle.std.proofs.Common.{◌≡◌, true}
use Rattle.hub_cell.specs.Passes.{IsOf, knows}
use Rattle.node_client.specs.Carrying.{is_fresh, work}
use Rattle.hub_workers.specs.Carried.{UnderWay}
use Rattle.hub_workers.specs.World.{world_of}
use Rattle.hub_workers.proofs.starting.carry_out.Given as goal

-- the start stands for the steps by which the world went on
abbrev pub invariant-turns : goal.invariant-turns
invariant-turns g l = record {
  own : IsOf l.hub l.pass;
  fresh : is_fresh l.carry ≡ true;
  way : UnderWay l.hub g.N.NodeLink.gives g.C.Clock.gives l.fn.reservation
      (world_of (knows l.fn.pass) l.fn.nodes l.fn.clock (g.C.Clock.view l.fn.clock)) l.carry
      (world_of (knows l.pass) l.nodes l.clock (g.C.Clock.view l.clock));
}

abbrev pub decreases-turns : goal.decreases-turns
decreases-turns g l = work l.carry
