use Rattle.std.proofs.Common.{◌≡◌, ◌+◌, true, length}
use Rattle.hub_core.specs.HubView.{past}
use Rattle.grid_simulate.specs.Held.{IsSound}
use Rattle.grid_simulate.specs.World.{world_of}
use Rattle.grid_simulate.specs.Simulates.{polled_all, settled}
use Rattle.grid_simulate.proofs.simulation.Simulation.settle.Given as goal

-- the polls that are left lead to the end
abbrev pub invariant-polls : goal.invariant-polls
invariant-polls l = record {
  sound : IsSound l.self;
  moment : l.self.moment ≡ l.fn.self.moment + 60_000;
  left : l.full ≡ true → (polled_all l.self.tickets.items (record (world_of l.fn.self) { moment = l.fn.self.moment + 60_000; history = past l.self.hub })).history ≡ (settled (world_of l.fn.self)).history;
}

abbrev pub decreases-polls : goal.decreases-polls
decreases-polls l = length l.self.tickets.items
