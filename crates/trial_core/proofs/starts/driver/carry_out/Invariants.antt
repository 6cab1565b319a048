use Rattle.std.proofs.Common.{◌≡◌, true}
use Rattle.node_client.specs.Carrying.{is_fresh, work}
use Rattle.trial_core.specs.Carried.{world_of, UnderWay}
use Rattle.trial_core.proofs.starts.driver.carry_out.Given as goal

-- the start stands for the steps by which the world went on
abbrev pub invariant-turns : goal.invariant-turns
invariant-turns g l = record {
  fresh : is_fresh l.carry ≡ true;
  way : UnderWay g.N.NodeLink.gives l.fn.reservation (world_of l.fn.hub l.fn.nodes (g.C.Clock.view l.fn.clock).moment) l.carry (world_of l.hub l.nodes (g.C.Clock.view l.clock).moment);
}

abbrev pub decreases-turns : goal.decreases-turns
decreases-turns g l = work l.carry
