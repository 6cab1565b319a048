-- What one more entry does to each fact about a history. A table that keeps a fact is kept right by
-- these laws.
use Rattle.std.specs.Prelude.{◌≡◌, ℕ, ◌+◌, Bool, true, false, if◌then◌else◌, not, ◌&&◌, ◌||◌, nat_eq, bytes_eq, List, [], ◌∷◌, ◌++◌, map, length, filter, Option, None, Some, is_some, ◌↔◌}
use Rattle.grid_types.specs.declared.entry.Entry.{Entry}
use Rattle.grid_types.specs.declared.entry.Change.{Change}
use Rattle.grid_types.specs.declared.entry.Change.TheVariants as change
use Rattle.grid_types.specs.declared.entry.EndCause.{EndCause}
use Rattle.grid_types.specs.declared.entry.FailWhy.{FailWhy}
use Rattle.grid_types.specs.declared.entry.Outcome.TheVariants as outcome
use Rattle.grid_types.specs.declared.view.Standing.TheVariants as standing
use Rattle.grid_types.specs.declared.names.SlotId.{SlotId}
use Rattle.grid_types.specs.declared.names.Moment.{Moment}
use Rattle.grid_types.specs.declared.capabilities.Cap.{Cap}
use Rattle.grid_types.specs.declared.capabilities.Registration.{Registration}
use Rattle.grid_types.specs.declared.config.HubConfig.{HubConfig}
use Rattle.grid_types.specs.Lists.{how_many, numbers_from}
use Rattle.grid_types.specs.History.{nodes, requests}
use Rattle.grid_types.specs.Nodes.{base_of, base_told, is_suspected, suspicion_told, beat_of, beat_told, turned, turned_told, bound_count, binds_on, address_of, registration_told}
use Rattle.grid_types.specs.Bindings.{Running, bound_slot}
use Rattle.grid_types.specs.Slots.{free, held, busy, closing, slot_eq, holder, holder_told, owner, is_free, is_busy, names_slot, load, held_count, slots_of}
use Rattle.grid_types.specs.Requests.{waiting, held as held_place, settled, taken, place, is_settled, is_barred, barred_told, asked_told, outcome_told, held_told, is_taken_by, deadline_of, unsettled}
use Rattle.grid_types.specs.Sessions.{IsRunning, is_at_node, live, live_told, active, active_told}
use Rattle.grid_types.specs.LookupMap.{put, removal, changes, published, published_by, session_in, sessions_on}
use Rattle.grid_types.specs.HubAnswers.{is_binding}
use Rattle.grid_types.specs.Permitted.{permitted}
use Rattle.grid_types.specs.Legal.{legal}

-- the history with the caller's change after it
abbrev pub with_entry : List Entry → ℕ → Change → List Entry
with_entry history caller new = record { caller = caller; change = new } ∷ history

-- a node's base
pub record BaseMoves : Type 0 where
  pub registered : (history : List Entry) (caller named node : ℕ)
      (registration : Registration) (at : Moment) →
      base_of (with_entry history caller (change.Registered named registration at)) node
      ≡ (if nat_eq named node then Some standing.Up else base_of history node)
  pub draining : (history : List Entry) (caller named node : ℕ) (at : Moment) →
      base_of (with_entry history caller (change.Draining named at)) node
      ≡ (if nat_eq named node then Some standing.Draining else base_of history node)
  pub removed : (history : List Entry) (caller named node : ℕ) (at : Moment) →
      base_of (with_entry history caller (change.Removed named at)) node
      ≡ (if nat_eq named node then Some standing.Gone else base_of history node)
  pub lapsed : (history : List Entry) (caller named node : ℕ) (at : Moment) →
      base_of (with_entry history caller (change.Lapsed named at)) node
      ≡ (if nat_eq named node then Some standing.Down else base_of history node)
  pub others : (history : List Entry) (caller node : ℕ) (new : Change) →
      base_told node new ≡ None →
      base_of (with_entry history caller new) node ≡ base_of history node

-- whether a node was suspected and has not beaten since
pub record SuspicionMoves : Type 0 where
  pub suspected : (history : List Entry) (caller named node : ℕ) (at : Moment) →
      is_suspected (with_entry history caller (change.Suspected named at)) node
      ≡ (if nat_eq named node then true else is_suspected history node)
  pub beaten : (history : List Entry) (caller named node : ℕ) (at : Moment) →
      is_suspected (with_entry history caller (change.Beaten named at)) node
      ≡ (if nat_eq named node then false else is_suspected history node)
  pub others : (history : List Entry) (caller node : ℕ) (new : Change) →
      suspicion_told node new ≡ None →
      is_suspected (with_entry history caller new) node ≡ is_suspected history node

-- how many sessions were bound on a node
pub record CountMoves : Type 0 where
  pub bound : (history : List Entry) (caller request node : ℕ) (slot : SlotId)
      (session : List ℕ) (capabilities : List Cap) (at : Moment) →
      bound_count
      (with_entry history caller (change.Bound request slot session capabilities at)) node
      ≡ (if nat_eq slot.node node then bound_count history node + 1 else bound_count history node)
  pub others : (history : List Entry) (caller node : ℕ) (new : Change) →
      binds_on node new ≡ false →
      bound_count (with_entry history caller new) node ≡ bound_count history node

-- a node's last beat
pub record BeatMoves : Type 0 where
  pub registered : (history : List Entry) (caller named node : ℕ)
      (registration : Registration) (at : Moment) →
      beat_of (with_entry history caller (change.Registered named registration at)) node
      ≡ (if nat_eq named node then at.0 else beat_of history node)
  pub beaten : (history : List Entry) (caller named node : ℕ) (at : Moment) →
      beat_of (with_entry history caller (change.Beaten named at)) node
      ≡ (if nat_eq named node then at.0 else beat_of history node)
  pub others : (history : List Entry) (caller node : ℕ) (new : Change) →
      beat_told node new ≡ None →
      beat_of (with_entry history caller new) node ≡ beat_of history node

-- the place of a node's last reservation
pub record TurnMoves : Type 0 where
  pub reserved : (history : List Entry) (caller request node : ℕ) (slot : SlotId) (choice : ℕ)
      (at : Moment) →
      turned (with_entry history caller (change.Reserved request slot choice at)) node
      ≡ (if nat_eq slot.node node then length history + 1 else turned history node)
  pub others : (history : List Entry) (caller node : ℕ) (new : Change) →
      turned_told node new ≡ false →
      turned (with_entry history caller new) node ≡ turned history node

-- a slot's holder
pub record HolderMoves : Type 0 where
  pub reserved : (history : List Entry) (caller request : ℕ) (named slot : SlotId)
      (choice : ℕ) (at : Moment) →
      holder (with_entry history caller (change.Reserved request named choice at)) slot
      ≡ (if slot_eq named slot then held request else holder history slot)
  pub bound : (history : List Entry) (caller request : ℕ) (named slot : SlotId)
      (session : List ℕ) (capabilities : List Cap) (at : Moment) →
      holder (with_entry history caller (change.Bound request named session capabilities at)) slot
      ≡ (if slot_eq named slot then busy session else holder history slot)
  pub failed : (history : List Entry) (caller request : ℕ) (named slot : SlotId)
      (reason : FailWhy) (orphan : Option (List ℕ)) (last : Bool) (at : Moment) →
      holder (with_entry history caller (change.Failed request named reason orphan last at)) slot
      ≡ (if slot_eq named slot then (if is_some orphan then closing else free)
      else holder history slot)
  pub ended : (history : List Entry) (caller binding : ℕ) (slot : SlotId) (ending : EndCause)
      (at : Moment) →
      holder (with_entry history caller (change.Ended binding ending at)) slot
      ≡ (if names_slot slot (bound_slot history binding) then closing else holder history slot)
  pub freed : (history : List Entry) (caller : ℕ) (named slot : SlotId) →
      holder (with_entry history caller (change.Freed named)) slot
      ≡ (if slot_eq named slot then free else holder history slot)
  pub lapsed : (history : List Entry) (caller node : ℕ) (slot : SlotId) (at : Moment) →
      holder (with_entry history caller (change.Lapsed node at)) slot
      ≡ (if nat_eq node slot.node && is_busy (holder history slot) then free
      else holder history slot)
  pub others : (history : List Entry) (caller : ℕ) (slot : SlotId) (new : Change) →
      holder_told history slot (holder history slot) new ≡ None →
      holder (with_entry history caller new) slot ≡ holder history slot

-- a slot's owner: the caller of each entry that concerns the slot
pub record OwnerMoves : Type 0 where
  pub reserved : (history : List Entry) (caller request : ℕ) (named slot : SlotId)
      (choice : ℕ) (at : Moment) →
      owner (with_entry history caller (change.Reserved request named choice at)) slot
      ≡ (if slot_eq named slot then Some caller else owner history slot)
  pub bound : (history : List Entry) (caller request : ℕ) (named slot : SlotId)
      (session : List ℕ) (capabilities : List Cap) (at : Moment) →
      owner (with_entry history caller (change.Bound request named session capabilities at)) slot
      ≡ (if slot_eq named slot then Some caller else owner history slot)
  pub failed : (history : List Entry) (caller request : ℕ) (named slot : SlotId)
      (reason : FailWhy) (orphan : Option (List ℕ)) (last : Bool) (at : Moment) →
      owner (with_entry history caller (change.Failed request named reason orphan last at)) slot
      ≡ (if slot_eq named slot then Some caller else owner history slot)
  pub ended : (history : List Entry) (caller binding : ℕ) (slot : SlotId) (ending : EndCause)
      (at : Moment) →
      owner (with_entry history caller (change.Ended binding ending at)) slot
      ≡ (if names_slot slot (bound_slot history binding) then Some caller else owner history slot)
  pub freed : (history : List Entry) (caller : ℕ) (named slot : SlotId) →
      owner (with_entry history caller (change.Freed named)) slot
      ≡ (if slot_eq named slot then Some caller else owner history slot)
  pub lapsed : (history : List Entry) (caller node : ℕ) (slot : SlotId) (at : Moment) →
      owner (with_entry history caller (change.Lapsed node at)) slot
      ≡ (if nat_eq node slot.node && is_busy (holder history slot) then Some caller
      else owner history slot)
  pub others : (history : List Entry) (caller : ℕ) (slot : SlotId) (new : Change) →
      holder_told history slot (holder history slot) new ≡ None →
      owner (with_entry history caller new) slot ≡ owner history slot

-- a node's load
pub record LoadMoves (config : HubConfig) : Type 0 where
  pub registered : (history : List Entry) (caller node : ℕ) (registration : Registration)
      (at : Moment) →
      legal config history ≡ true →
      permitted config history caller (change.Registered node registration at) ≡ true →
      load (with_entry history caller (change.Registered node registration at)) node ≡ 0
  pub reserved : (history : List Entry) (caller request : ℕ) (slot : SlotId) (choice : ℕ)
      (at : Moment) →
      legal config (with_entry history caller (change.Reserved request slot choice at)) ≡ true →
      load (with_entry history caller (change.Reserved request slot choice at)) slot.node
      ≡ load history slot.node + 1
  pub bound : (history : List Entry) (caller request node : ℕ) (slot : SlotId)
      (session : List ℕ) (capabilities : List Cap) (at : Moment) →
      permitted config history caller (change.Bound request slot session capabilities at) ≡ true →
      load (with_entry history caller (change.Bound request slot session capabilities at)) node
      ≡ load history node
  pub failed : (history : List Entry) (caller request : ℕ) (slot : SlotId) (reason : FailWhy)
      (last : Bool) (at : Moment) →
      legal config history ≡ true →
      permitted config history caller (change.Failed request slot reason None last at) ≡ true →
      load history slot.node
      ≡ load (with_entry history caller (change.Failed request slot reason None last at)) slot.node
      + 1
  pub failed_orphan : (history : List Entry) (caller request node : ℕ) (slot : SlotId)
      (reason : FailWhy) (session : List ℕ) (last : Bool) (at : Moment) →
      permitted config history caller (change.Failed request slot reason (Some session) last at)
      ≡ true →
      load
      (with_entry history caller (change.Failed request slot reason (Some session) last at)) node
      ≡ load history node
  pub ended : (history : List Entry) (caller binding node : ℕ) (ending : EndCause)
      (at : Moment) →
      legal config history ≡ true →
      permitted config history caller (change.Ended binding ending at) ≡ true →
      load (with_entry history caller (change.Ended binding ending at)) node ≡ load history node
  pub freed : (history : List Entry) (caller : ℕ) (slot : SlotId) →
      legal config history ≡ true → permitted config history caller (change.Freed slot) ≡ true →
      load history slot.node ≡ load (with_entry history caller (change.Freed slot)) slot.node + 1
  pub lapsed : (history : List Entry) (caller node : ℕ) (at : Moment) →
      load (with_entry history caller (change.Lapsed node at)) node
      ≡ how_many
      (λ slot. not (is_free (holder history slot)) && not (is_busy (holder history slot)))
      (slots_of history node)
  -- no slot of the node is concerned, and it is not registered now
  pub others : (history : List Entry) (caller node : ℕ) (new : Change) →
      registration_told node new ≡ None →
      ((slot : SlotId) → slot.node ≡ node →
      holder_told history slot (holder history slot) new ≡ None) →
      load (with_entry history caller new) node ≡ load history node

-- how many slots of a node are held
pub record HeldMoves (config : HubConfig) : Type 0 where
  pub registered : (history : List Entry) (caller node : ℕ) (registration : Registration)
      (at : Moment) →
      legal config history ≡ true →
      permitted config history caller (change.Registered node registration at) ≡ true →
      held_count (with_entry history caller (change.Registered node registration at)) node ≡ 0
  pub reserved : (history : List Entry) (caller request : ℕ) (slot : SlotId) (choice : ℕ)
      (at : Moment) →
      legal config (with_entry history caller (change.Reserved request slot choice at)) ≡ true →
      held_count (with_entry history caller (change.Reserved request slot choice at)) slot.node
      ≡ held_count history slot.node + 1
  pub bound : (history : List Entry) (caller request : ℕ) (slot : SlotId) (session : List ℕ)
      (capabilities : List Cap) (at : Moment) →
      legal config history ≡ true →
      permitted config history caller (change.Bound request slot session capabilities at) ≡ true →
      held_count history slot.node
      ≡ held_count
      (with_entry history caller (change.Bound request slot session capabilities at)) slot.node
      + 1
  pub failed : (history : List Entry) (caller request : ℕ) (slot : SlotId) (reason : FailWhy)
      (orphan : Option (List ℕ)) (last : Bool) (at : Moment) →
      legal config history ≡ true →
      permitted config history caller (change.Failed request slot reason orphan last at) ≡ true →
      held_count history slot.node
      ≡ held_count
      (with_entry history caller (change.Failed request slot reason orphan last at)) slot.node
      + 1
  pub ended : (history : List Entry) (caller binding node : ℕ) (ending : EndCause)
      (at : Moment) →
      legal config history ≡ true →
      permitted config history caller (change.Ended binding ending at) ≡ true →
      held_count (with_entry history caller (change.Ended binding ending at)) node
      ≡ held_count history node
  pub freed : (history : List Entry) (caller node : ℕ) (slot : SlotId) →
      permitted config history caller (change.Freed slot) ≡ true →
      held_count (with_entry history caller (change.Freed slot)) node ≡ held_count history node
  pub lapsed : (history : List Entry) (caller named node : ℕ) (at : Moment) →
      held_count (with_entry history caller (change.Lapsed named at)) node ≡ held_count history node
  -- no slot of the node is concerned, and it is not registered now
  pub others : (history : List Entry) (caller node : ℕ) (new : Change) →
      registration_told node new ≡ None →
      ((slot : SlotId) → slot.node ≡ node →
      holder_told history slot (holder history slot) new ≡ None) →
      held_count (with_entry history caller new) node ≡ held_count history node

-- where a request stands
pub record PlaceMoves (config : HubConfig) : Type 0 where
  pub queued : (history : List Entry) (caller named request : ℕ) (choices : List (List Cap))
      (deadline at : Moment) →
      legal config history ≡ true →
      permitted config history caller (change.Queued named choices deadline at) ≡ true →
      place (with_entry history caller (change.Queued named choices deadline at)) request
      ≡ (if nat_eq named request then waiting else place history request)
  pub reserved : (history : List Entry) (caller named request : ℕ) (slot : SlotId)
      (choice : ℕ) (at : Moment) →
      permitted config history caller (change.Reserved named slot choice at) ≡ true →
      place (with_entry history caller (change.Reserved named slot choice at)) request
      ≡ (if nat_eq named request then held_place else place history request)
  pub bound : (history : List Entry) (caller named request : ℕ) (slot : SlotId)
      (session : List ℕ) (capabilities : List Cap) (at : Moment) →
      permitted config history caller (change.Bound named slot session capabilities at) ≡ true →
      place (with_entry history caller (change.Bound named slot session capabilities at)) request
      ≡ (if nat_eq named request
      then settled (outcome.Created session capabilities slot (address_of history slot.node) named)
      else place history request)
  -- a failed start settles its request, or leaves it as it was settled, or makes it wait again
  pub failed : (history : List Entry) (caller named request : ℕ) (slot : SlotId)
      (reason : FailWhy) (orphan : Option (List ℕ)) (last : Bool) (at : Moment) →
      legal config history ≡ true →
      permitted config history caller (change.Failed named slot reason orphan last at) ≡ true →
      place (with_entry history caller (change.Failed named slot reason orphan last at)) request
      ≡ (if nat_eq named request
      then (if last then settled (outcome.StartFailed reason)
      else if is_settled history named then place history named
      else waiting)
      else place history request)
  pub timed_out : (history : List Entry) (caller named request : ℕ) (at : Moment) →
      permitted config history caller (change.TimedOut named at) ≡ true →
      place (with_entry history caller (change.TimedOut named at)) request
      ≡ (if nat_eq named request
      then settled (outcome.TimedOut (record { 0 = deadline_of history named }))
      else place history request)
  pub cleared : (history : List Entry) (caller named request : ℕ) (at : Moment) →
      permitted config history caller (change.Cleared named at) ≡ true →
      place (with_entry history caller (change.Cleared named at)) request
      ≡ (if nat_eq named request then settled outcome.Cleared else place history request)
  pub taken : (history : List Entry) (caller named request : ℕ) (at : Moment) →
      place (with_entry history caller (change.Taken named at)) request
      ≡ (if nat_eq named request then taken else place history request)
  pub others : (history : List Entry) (caller request : ℕ) (new : Change) →
      asked_told request caller new ≡ None → outcome_told request history new ≡ None →
      held_told request new ≡ None → is_taken_by request new ≡ false →
      place (with_entry history caller new) request ≡ place history request

-- the nodes that are barred for a request
pub record BarMoves : Type 0 where
  pub failed : (history : List Entry) (caller named request node : ℕ) (slot : SlotId)
      (reason : FailWhy) (orphan : Option (List ℕ)) (last : Bool) (at : Moment) →
      is_barred
      (with_entry history caller (change.Failed named slot reason orphan last at)) request node
      ≡ ((nat_eq named request && nat_eq slot.node node) || is_barred history request node)
  pub others : (history : List Entry) (caller request node : ℕ) (new : Change) →
      barred_told request node new ≡ false →
      is_barred (with_entry history caller new) request node ≡ is_barred history request node

-- where a session is live
pub record LiveMoves (config : HubConfig) : Type 0 where
  pub bound : (history : List Entry) (caller request : ℕ) (slot : SlotId) (named : List ℕ)
      (capabilities : List Cap) (at : Moment) (session : List ℕ) →
      legal config (with_entry history caller (change.Bound request slot named capabilities at))
      ≡ true →
      live (with_entry history caller (change.Bound request slot named capabilities at)) session
      ≡ (if bytes_eq named session
      then Some (record {
        session = named;
        slot = slot;
        address = address_of history slot.node;
        binding = request;
      })
      else live history session)
  pub ended : (history : List Entry) (caller binding : ℕ) (ending : EndCause) (at : Moment)
      (session : List ℕ) →
      live (with_entry history caller (change.Ended binding ending at)) session
      ≡ (if is_binding binding (live history session) then None else live history session)
  pub lapsed : (history : List Entry) (caller node : ℕ) (at : Moment) (session : List ℕ) →
      legal config history ≡ true →
      live (with_entry history caller (change.Lapsed node at)) session
      ≡ (if is_at_node node (live history session) then None else live history session)
  pub others : (history : List Entry) (caller : ℕ) (new : Change) (session : List ℕ) →
      ((binding : ℕ) → live_told binding history new ≡ None) →
      live (with_entry history caller new) session ≡ live history session

-- when a binding was last active
pub record ActiveMoves : Type 0 where
  pub bound : (history : List Entry) (caller request binding : ℕ) (slot : SlotId)
      (session : List ℕ) (capabilities : List Cap) (at : Moment) →
      active (with_entry history caller (change.Bound request slot session capabilities at)) binding
      ≡ (if nat_eq request binding then at.0 else active history binding)
  pub touched : (history : List Entry) (caller named binding : ℕ) (at : Moment) →
      active (with_entry history caller (change.Touched named at)) binding
      ≡ (if nat_eq named binding then at.0 else active history binding)
  pub others : (history : List Entry) (caller binding : ℕ) (new : Change) →
      active_told binding new ≡ None →
      active (with_entry history caller new) binding ≡ active history binding

-- the published map's changes
pub record PublishedMoves (config : HubConfig) : Type 0 where
  pub bound : (history : List Entry) (caller request : ℕ) (slot : SlotId) (session : List ℕ)
      (capabilities : List Cap) (at : Moment) →
      changes (with_entry history caller (change.Bound request slot session capabilities at))
      ≡ put (record {
        session = session;
        slot = slot;
        address = address_of history slot.node;
        binding = request;
      })
      ∷ changes history
  pub ended : (history : List Entry) (caller : ℕ) (running : Running) (ending : EndCause)
      (at : Moment) →
      IsRunning history running →
      changes (with_entry history caller (change.Ended running.binding ending at))
      ≡ removal running.session ∷ changes history
  pub lapsed : (history : List Entry) (caller node : ℕ) (at : Moment) →
      changes (with_entry history caller (change.Lapsed node at))
      ≡ published (changes history) (map (λ session. removal session) (sessions_on history node))
  pub others : (history : List Entry) (caller : ℕ) (new : Change) →
      published_by history new ≡ [] → changes (with_entry history caller new) ≡ changes history
  -- the sessions of a node are those that run in its slots
  pub running : (history : List Entry) (slot : SlotId) (session : List ℕ) →
      legal config history ≡ true →
      (session_in (holder history slot) ≡ Some session)
      ↔ ((running : Running) × IsRunning history running × (running.slot ≡ slot)
      × (running.session ≡ session))

-- all of the numbers but this one
abbrev pub all_but : ℕ → List ℕ → List ℕ
all_but number = filter (λ other. not (nat_eq number other))

-- the requests that are not settled
pub record QueueMoves (config : HubConfig) : Type 0 where
  pub queued : (history : List Entry) (caller request : ℕ) (choices : List (List Cap))
      (deadline at : Moment) →
      legal config history ≡ true →
      permitted config history caller (change.Queued request choices deadline at) ≡ true →
      unsettled (with_entry history caller (change.Queued request choices deadline at))
      ≡ unsettled history ++ request ∷ []
  pub reserved : (history : List Entry) (caller request : ℕ) (slot : SlotId) (choice : ℕ)
      (at : Moment) →
      permitted config history caller (change.Reserved request slot choice at) ≡ true →
      unsettled (with_entry history caller (change.Reserved request slot choice at))
      ≡ unsettled history
  pub bound : (history : List Entry) (caller request : ℕ) (slot : SlotId) (session : List ℕ)
      (capabilities : List Cap) (at : Moment) →
      permitted config history caller (change.Bound request slot session capabilities at) ≡ true →
      unsettled (with_entry history caller (change.Bound request slot session capabilities at))
      ≡ all_but request (unsettled history)
  pub failed_last : (history : List Entry) (caller request : ℕ) (slot : SlotId)
      (reason : FailWhy) (orphan : Option (List ℕ)) (at : Moment) →
      legal config history ≡ true →
      permitted config history caller (change.Failed request slot reason orphan true at) ≡ true →
      unsettled (with_entry history caller (change.Failed request slot reason orphan true at))
      ≡ all_but request (unsettled history)
  pub failed : (history : List Entry) (caller request : ℕ) (slot : SlotId) (reason : FailWhy)
      (orphan : Option (List ℕ)) (at : Moment) →
      legal config history ≡ true →
      permitted config history caller (change.Failed request slot reason orphan false at) ≡ true →
      unsettled (with_entry history caller (change.Failed request slot reason orphan false at))
      ≡ unsettled history
  pub timed_out : (history : List Entry) (caller request : ℕ) (at : Moment) →
      permitted config history caller (change.TimedOut request at) ≡ true →
      unsettled (with_entry history caller (change.TimedOut request at))
      ≡ all_but request (unsettled history)
  pub cleared : (history : List Entry) (caller request : ℕ) (at : Moment) →
      permitted config history caller (change.Cleared request at) ≡ true →
      unsettled (with_entry history caller (change.Cleared request at))
      ≡ all_but request (unsettled history)
  pub taken : (history : List Entry) (caller request : ℕ) (at : Moment) →
      legal config history ≡ true →
      permitted config history caller (change.Taken request at) ≡ true →
      unsettled (with_entry history caller (change.Taken request at)) ≡ unsettled history

-- nodes and requests are numbered one by one, from the first number on
pub record NumberedOneByOne (config : HubConfig) : Type 0 where
  pub of_nodes : (history : List Entry) → legal config history ≡ true →
      nodes history ≡ numbers_from config.first_node (length (nodes history))
  pub of_requests : (history : List Entry) → legal config history ≡ true →
      requests history ≡ numbers_from config.first_request (length (requests history))
