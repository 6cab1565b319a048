-- A start that a driver carried to its end, on a hub of one thread.
use Rattle.std.specs.Prelude.{◌≡◌, ℕ, Bool, true, List, ◌++◌, Option, None, Some}
use Rattle.grid_types.specs.declared.config.HubConfig.{HubConfig}
use Rattle.grid_types.specs.declared.entry.Entry.{Entry}
use Rattle.grid_types.specs.Legal.{legal}
use Rattle.grid_types.specs.Safe.{IsSafe}
use Rattle.grid_types.specs.Tokens.{Ticket, Reservation, is_good_ticket, ticket_of}
use Rattle.grid_outside.specs.declared.exchange.Ask.{Ask}
use Rattle.grid_outside.specs.Exchanges.{Came}
use Rattle.hub_core.specs.HubView.{HubView, past}
use Rattle.node_client.specs.declared.wants.CarryEnd.{CarryEnd}
use Rattle.node_client.specs.declared.carry.Carry.{Carry}
use Rattle.node_client.specs.Steps.{Step, met_want, bound_one}
use Rattle.node_client.specs.Start.{Start}
use Rattle.node_client.specs.Runs.{Runs, Exchanges, Timed}
use Rattle.node_client.specs.Places.{Place, at_end, IsGoodAt, is_bound_end}
use Rattle.node_client.specs.Carrying.{Stands, Finished}

-- a hub, its nodes and the last moment of its clock
pub record World (N : Type 0) : Type 0 where
  pub hub : HubView
  pub nodes : N
  pub moment : ℕ

abbrev pub world_of : {N : Type 0} → HubView → N → ℕ → World N
world_of hub nodes moment = record { hub = hub; nodes = nodes; moment = moment }

-- a history is legal and safe
pub record IsSound (c : HubConfig) (H : List Entry) : Type 0 where
  pub is_legal : legal c H ≡ true
  pub is_safe : IsSafe H

-- a ticket of the caller that is good and tells what is so
abbrev pub IsGoodTicket : List Entry → Ticket → Type 0
IsGoodTicket H t = (is_good_ticket H 0 t.request ≡ true) × (t ≡ ticket_of H t.request)

-- the steps lead from the one world to the other
pub record Went {N : Type 0} (gives : N → List ℕ → Ask → Came → N → Type 0) (old : World N)
    (steps : List Step) (new : World N) : Type 0 where
  pub config : new.hub.config ≡ old.hub.config
  pub answered : Runs old.hub.config 0 (past old.hub) steps (past new.hub)
  pub asked : Exchanges gives old.nodes steps new.nodes
  pub timed : Timed old.moment steps new.moment
  pub sound : IsSound old.hub.config (past old.hub) → IsSound old.hub.config (past new.hub)
  pub keeps : (k : ℕ) → is_good_ticket (past old.hub) 0 k ≡ true →
      (is_good_ticket (past new.hub) 0 k ≡ true) ×
      (ticket_of (past new.hub) k ≡ ticket_of (past old.hub) k)

-- somewhere in a start, and what it holds is good
pub record IsUnder (carry : Carry) (H : List Entry) : Type 0 where
  pub r : Reservation
  pub place : Place
  pub steps : List Step
  pub stands : Stands carry r place steps
  pub good : IsGoodAt H 0 r place

-- the start and the world have gone on by the same steps
pub record OnwardBy {N : Type 0} (gives : N → List ℕ → Ask → Came → N → Type 0) (r : Reservation)
    (steps : List Step) (old : World N) (carry : Carry) (new : World N) : Type 0 where
  pub to : Place
  pub more : List Step
  pub stands : Stands carry r to (steps ++ more)
  pub good : IsGoodAt (past new.hub) 0 r to
  pub went : Went gives old more new

-- a start that stands for these steps is at its end
pub record IsOver (e : CarryEnd) (r : Reservation) (place : Place)
    (steps : List Step) : Type 0 where
  pub finished : Finished e r steps
  pub place_is : place ≡ at_end e

abbrev pub Turned : {N : Type 0} → (N → List ℕ → Ask → Came → N → Type 0) → Carry → World N →
    Option CarryEnd → Carry → World N → Type 0
Turned gives old before None new after =
    (r : Reservation) (place : Place) (steps : List Step) → Stands old r place steps →
    IsGoodAt (past before.hub) 0 r place → OnwardBy gives r steps before new after
Turned gives old before (Some e) new after =
    (new ≡ old) × (after ≡ before) ×
    ((r : Reservation) (place : Place) (steps : List Step) → Stands old r place steps →
    IsOver e r place steps)

-- on the way
pub record UnderWay {N : Type 0} (gives : N → List ℕ → Ask → Came → N → Type 0) (r : Reservation)
    (old : World N) (carry : Carry) (new : World N) : Type 0 where
  pub place : Place
  pub steps : List Step
  pub stands : Stands carry r place steps
  pub good : IsGoodAt (past new.hub) 0 r place
  pub went : Went gives old steps new

-- There are steps by which the world went on, and they are a start of the reservation. It ended as
-- the hub answered, and it is short where a step was out of memory.
pub record Carried {N : Type 0} (gives : N → List ℕ → Ask → Came → N → Type 0) (r : Reservation)
    (old : World N) (end : CarryEnd × Bool) (new : World N) : Type 0 where
  pub steps : List Step
  pub start : Start r steps
  pub bound_is : bound_one steps ≡ is_bound_end end.0
  pub short_is : end.1 ≡ met_want steps
  pub went : Went gives old steps new
