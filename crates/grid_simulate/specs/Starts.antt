-- Starts in a simulation.
use Rattle.std.specs.Prelude.{◌≡◌, false, List, [], ◌∷◌, ◌++◌, Option, None, Some, option_to_list}
use Rattle.grid_types.specs.Lists.{or_else}
use Rattle.grid_types.specs.Tokens.{Reservation}
use Rattle.grid_types.specs.Calls.{Call, Reply}
use Rattle.loop_node.specs.Links.{NodesGive}
use Rattle.node_client.specs.Steps.{Step, Called, Spent, Exchanged, Paused, met_want}
use Rattle.node_client.specs.Start.{Start}
use Rattle.node_client.specs.Runs.{Runs, Exchanges, Still}
use Rattle.grid_simulate.specs.declared.simulation.Kept.{Kept}
use Rattle.grid_simulate.specs.World.{World, simulated_config}

-- the session that a step bound
abbrev pub bound_by : Call → Option Reply → Option Kept
bound_by (Call.bind r session caps) (Some (Reply.bound number)) =
    Some (record { session = session; binding = number })
bound_by call reply = None

abbrev pub bound_at : Step → Option Kept
bound_at (Called call at reply) = bound_by call reply
bound_at (Spent call at) = None
bound_at (Exchanged address ask came) = None
bound_at (Paused ms) = None

-- the session that the steps bound
abbrev pub bound_in : List Step → Option Kept
bound_in [] = None
bound_in (step ∷ steps) = or_else (bound_in steps) (bound_at step)

-- The start of the reservation is made at the world's moment, with no step out of memory: its steps are a start, the hub
-- and the nodes answer them, and the session that was bound goes to the end of the sessions.
pub record Starts (r : Reservation) (old new : World) : Type 0 where
  pub steps : List Step
  pub start : Start r steps
  pub full : met_want steps ≡ false
  pub answered : Runs simulated_config 0 old.history steps new.history
  pub asked : Exchanges NodesGive old.nodes steps new.nodes
  pub still : Still old.moment steps old.moment
  pub rest : new ≡ record old {
    history = new.history;
    nodes = new.nodes;
    sessions = old.sessions ++ option_to_list (bound_in steps);
  }

-- each reservation is taken out and started, in order
abbrev pub StartsAll : List Reservation → World → World → Type 0
StartsAll [] old new = new ≡ old
StartsAll (r ∷ others) old new =
    (next : World) × Starts r (record old { reservations = others }) next × StartsAll others next new
