-- The world while its nodes come.
use Rattle.std.specs.Prelude.{ℕ, List, []}
use Rattle.hub_core.specs.HubView.{HubView, past}
use Rattle.loop_node.specs.Sessions.{Node}
use Rattle.grid_simulate.specs.World.{World}

abbrev pub gathered : ℕ → HubView → List Node → World
gathered number hub nodes = record {
  number = number;
  moment = 0;
  history = past hub;
  nodes = nodes;
  tickets = [];
  reservations = [];
  sessions = [];
}
