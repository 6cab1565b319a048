-- What a choice that fits and a permitted change tell, fact by fact.
use Rattle.std.specs.Prelude.{◌≡◌, ℕ, true, false, nat_lt, List, Some}
use Rattle.grid_types.specs.declared.capabilities.Cap.{Cap}
use Rattle.grid_types.specs.declared.entry.Entry.{Entry}
use Rattle.grid_types.specs.declared.names.SlotId.{SlotId}
use Rattle.grid_types.specs.Matching.{meets}
use Rattle.grid_types.specs.Nodes.{is_up, is_registered, max_of}
use Rattle.grid_types.specs.Slots.{free, held, holder, owner, load}
use Rattle.grid_types.specs.Requests.{waiting, held as held_place, place, deadline_of, is_barred, is_reserved}
use Rattle.grid_types.specs.Sessions.{is_live_session}
use Rattle.grid_types.specs.Fit.{has_sessions_left, matches_slot}
use Rattle.grid_types.specs.Permitted.{wanted_of}

-- this choice of the request fits the slot at the moment
pub record Fits (history : List Entry) (request choice : ℕ) (slot : SlotId)
    (moment : ℕ) : Type 0 where
  pub is_waiting : place history request ≡ waiting
  pub in_time : nat_lt moment (deadline_of history request) ≡ true
  pub is_free : holder history slot ≡ free
  pub is_up : is_up history slot.node ≡ true
  pub not_barred : is_barred history request slot.node ≡ false
  pub below_max : nat_lt (load history slot.node) (max_of history slot.node) ≡ true
  pub sessions_left : has_sessions_left history slot.node ≡ true
  pub matches : matches_slot history request choice slot ≡ true

-- the caller has the slot for the request
pub record HasSlot (history : List Entry) (caller request : ℕ) (slot : SlotId) : Type 0 where
  pub holder : holder history slot ≡ held request
  pub owner : owner history slot ≡ Some caller

-- the caller may bind a session of these capabilities on the slot for the request
pub record MayBind (history : List Entry) (caller request : ℕ) (slot : SlotId)
    (session : List ℕ) (capabilities : List Cap) : Type 0 where
  pub is_held : place history request ≡ held_place
  pub holder : holder history slot ≡ held request
  pub owner : owner history slot ≡ Some caller
  pub registered : is_registered history slot.node ≡ true
  pub not_live : is_live_session history session ≡ false
  pub meets : meets (wanted_of history request slot) capabilities ≡ true

-- a slot is held for a request that was reserved, and no two slots are held for one request
pub record HoldsOne (history : List Entry) : Type 0 where
  pub reserved : (slot : SlotId) (request : ℕ) → holder history slot ≡ held request →
      is_reserved history request ≡ true
  pub one : (first second : SlotId) (request : ℕ) → holder history first ≡ held request →
      holder history second ≡ held request → first ≡ second
