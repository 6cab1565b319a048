-- A start that a driver carries to its end, at one moment.
use Rattle.std.specs.Prelude.{◌≡◌, ℕ, Bool, true, false, List, ◌++◌, Option, None, Some}
use Rattle.grid_types.specs.declared.entry.Entry.{Entry}
use Rattle.grid_types.specs.declared.names.SlotId.{SlotId}
use Rattle.grid_types.specs.Lists.{or_else}
use Rattle.grid_types.specs.Slots.{slot_eq}
use Rattle.grid_types.specs.Tokens.{Reservation, is_good_ticket, ticket_of, is_good_reservation, reservation_of}
use Rattle.grid_types.specs.Calls.{Reply}
use Rattle.hub_core.specs.HubView.{HubView, past}
use Rattle.loop_node.specs.Sessions.{Node}
use Rattle.loop_node.specs.Links.{NodesGive}
use Rattle.node_client.specs.declared.wants.CarryEnd.{CarryEnd}
use Rattle.node_client.specs.declared.carry.Carry.{Carry}
use Rattle.node_client.specs.Steps.{Step, met_want}
use Rattle.node_client.specs.Start.{Start}
use Rattle.node_client.specs.Runs.{Runs, Exchanges, Still}
use Rattle.node_client.specs.Places.{Place, at_end, IsGoodAt}
use Rattle.node_client.specs.Carrying.{Stands, Finished}
use Rattle.grid_simulate.specs.declared.simulation.Kept.{Kept}
use Rattle.grid_simulate.specs.Starts.{bound_in}

-- a hub and its nodes
pub record Grid : Type 0 where
  pub hub : HubView
  pub nodes : List Node

abbrev pub grid_of : HubView → List Node → Grid
grid_of hub nodes = record { hub = hub; nodes = nodes }

-- the session where the hub has bound it
abbrev pub bound_with : List ℕ → Option Reply → Option Kept
bound_with session (Some (Reply.bound number)) = Some (record { session = session; binding = number })
bound_with session reply = None

-- The steps lead from the one to the other, all at one moment. Each good ticket stays good, and so does each good
-- reservation of another slot.
pub record Went (at : ℕ) (slot : SlotId) (old : Grid) (steps : List Step) (new : Grid) : Type 0 where
  pub config : new.hub.config ≡ old.hub.config
  pub answered : Runs old.hub.config 0 (past old.hub) steps (past new.hub)
  pub asked : Exchanges NodesGive old.nodes steps new.nodes
  pub still : Still at steps at
  pub keeps_tickets : (k : ℕ) → is_good_ticket (past old.hub) 0 k ≡ true →
      (is_good_ticket (past new.hub) 0 k ≡ true) ×
      (ticket_of (past new.hub) k ≡ ticket_of (past old.hub) k)
  pub keeps_reservations : (k : ℕ) (s : SlotId) → is_good_reservation (past old.hub) 0 k s ≡ true →
      slot_eq slot s ≡ false →
      (is_good_reservation (past new.hub) 0 k s ≡ true) ×
      (reservation_of (past new.hub) k s ≡ reservation_of (past old.hub) k s)

-- somewhere in a start, and what it holds is good
pub record IsUnder (carry : Carry) (H : List Entry) : Type 0 where
  pub r : Reservation
  pub place : Place
  pub steps : List Step
  pub stands : Stands carry r place steps
  pub good : IsGoodAt H 0 r place

-- the start and the grid have gone on by the same steps, and the session that they bound was noted
pub record OnwardBy (at : ℕ) (r : Reservation) (steps : List Step) (old : Grid) (kept : Option Kept)
    (carry : Carry) (new : Grid) (noted : Option Kept) : Type 0 where
  pub to : Place
  pub more : List Step
  pub stands : Stands carry r to (steps ++ more)
  pub good : IsGoodAt (past new.hub) 0 r to
  pub went : Went at r.slot old more new
  pub notes : noted ≡ or_else (bound_in more) kept

-- a start that stands for these steps is at its end
pub record IsOver (e : CarryEnd) (r : Reservation) (place : Place)
    (steps : List Step) : Type 0 where
  pub finished : Finished e r steps
  pub place_is : place ≡ at_end e

abbrev pub Turned : ℕ → Carry → Grid → Option Kept → Option CarryEnd → Carry → Grid → Option Kept →
    Type 0
Turned at old before kept None new after noted =
    (r : Reservation) (place : Place) (steps : List Step) → Stands old r place steps →
    IsGoodAt (past before.hub) 0 r place → OnwardBy at r steps before kept new after noted
Turned at old before kept (Some e) new after noted =
    (new ≡ old) × (after ≡ before) × (noted ≡ kept) ×
    ((r : Reservation) (place : Place) (steps : List Step) → Stands old r place steps →
    IsOver e r place steps)

-- on the way
pub record UnderWay (at : ℕ) (r : Reservation) (old : Grid) (carry : Carry) (new : Grid)
    (kept : Option Kept) : Type 0 where
  pub place : Place
  pub steps : List Step
  pub stands : Stands carry r place steps
  pub good : IsGoodAt (past new.hub) 0 r place
  pub went : Went at r.slot old steps new
  pub notes : kept ≡ bound_in steps

-- There are steps by which the grid went on, and they are a start of the reservation. The session is the one that they
-- bound, and the start is short where a step was out of memory.
pub record Carried (at : ℕ) (r : Reservation) (old : Grid) (end : Option Kept × Bool)
    (new : Grid) : Type 0 where
  pub steps : List Step
  pub start : Start r steps
  pub notes : end.0 ≡ bound_in steps
  pub short_is : end.1 ≡ met_want steps
  pub went : Went at r.slot old steps new
