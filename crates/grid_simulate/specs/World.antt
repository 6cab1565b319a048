-- The world of a simulation: its generator, its moment, the hub's history, the nodes, and the tokens that are kept.
use Rattle.std.specs.Prelude.{ℕ, List}
use Rattle.grid_types.specs.declared.config.HubConfig.{HubConfig}
use Rattle.grid_types.specs.Config.{default_config}
use Rattle.grid_types.specs.declared.entry.Entry.{Entry}
use Rattle.grid_types.specs.Tokens.{Ticket, Reservation}
use Rattle.grid_types.specs.Calls.{Call, Reply}
use Rattle.grid_types.specs.HubAnswers.{hub, after_call}
use Rattle.hub_core.specs.HubView.{past}
use Rattle.loop_node.specs.Sessions.{Node}
use Rattle.loop_node.specs.LinkedNodes.{nodes_reached}
use Rattle.grid_simulate.specs.declared.simulation.Kept.{Kept}
use Rattle.grid_simulate.specs.declared.simulation.Simulation.{Simulation}
use Rattle.grid_simulate.specs.Draws.{next_number, drawn_by}

-- histories have their newest entry first
pub record World : Type 0 where
  pub number : ℕ
  pub moment : ℕ
  pub history : List Entry
  pub nodes : List Node
  pub tickets : List Ticket
  pub reservations : List Reservation
  pub sessions : List Kept

-- how its hub is set up: a request waits for a minute at most, and 50 may wait or be held at once
abbrev pub simulated_config : HubConfig
simulated_config = record default_config { timeout_ms = 60_000; queue_requests = 50 }

-- what the next draw below n gives, and the world with that draw made
abbrev pub draw : World → ℕ → ℕ
draw w n = drawn_by (next_number w.number) n

abbrev pub drawn : World → World
drawn w = record w { number = next_number w.number }

-- what the hub of one thread replies to a call at the world's moment, and the world after the call
abbrev pub reply_to : World → Call → Reply
reply_to w call = (hub simulated_config w.history 0 call w.moment).reply

abbrev pub called : World → Call → World
called w call = record w { history = after_call simulated_config w.history 0 call w.moment }

-- what a simulation stands for
abbrev pub world_of : Simulation → World
world_of s = record {
  number = s.number;
  moment = s.moment;
  history = past s.hub;
  nodes = nodes_reached s.nodes;
  tickets = s.tickets.items;
  reservations = s.reservations.items;
  sessions = s.sessions.items;
}
