-- What holds of every legal history, as laws that the tables and the calls above are proved by.
use Rattle.std.specs.List.{list_all, list_any, reduce}
use Rattle.std.specs.Prelude.{◌⊎◌, Bool, List, None, Option, Some, [], bytes_eq, if◌then◌else◌, false, filter, is_some, length, min, nat_eq, nat_lt, not, true, ℕ, ◌&&◌, ◌++◌, ◌+◌, ◌<◌, ◌||◌, ◌∷◌, ◌≡◌, ◌≤◌}
use Rattle.grid_types.specs.declared.capabilities.Cap.{Cap}
use Rattle.grid_types.specs.declared.capabilities.Registration.{Registration}
use Rattle.grid_types.specs.declared.config.HubConfig.{HubConfig}
use Rattle.grid_types.specs.declared.entry.Change.{Change}
use Rattle.grid_types.specs.declared.entry.Change.TheVariants as change
use Rattle.grid_types.specs.declared.entry.EndCause.{EndCause}
use Rattle.grid_types.specs.declared.entry.Entry.{Entry}
use Rattle.grid_types.specs.declared.entry.FailWhy.{FailWhy}
use Rattle.grid_types.specs.declared.entry.Outcome.{Outcome}
use Rattle.grid_types.specs.declared.entry.Outcome.TheVariants as outcome
use Rattle.grid_types.specs.declared.names.Moment.{Moment}
use Rattle.grid_types.specs.declared.names.SlotId.{SlotId}
use Rattle.grid_types.specs.Bindings.{Running, bindings, bound_of, bound_slot, running_told}
use Rattle.grid_types.specs.Capabilities.{request_bytes}
use Rattle.grid_types.specs.Choice.{Assignment, assignment_before, chosen}
use Rattle.grid_types.specs.Fit.{fits, matches_there}
use Rattle.grid_types.specs.History.{history_of, next_node, next_request, requests}
use Rattle.grid_types.specs.HubAnswers.{is_binding}
use Rattle.grid_types.specs.Legal.{legal}
use Rattle.grid_types.specs.Lists.{has, is_distinct, least, total}
use Rattle.grid_types.specs.Nodes.{address_of, base_of, is_base_up, is_registered, is_up, registration_of, stereotypes_of, turned}
use Rattle.grid_types.specs.Permitted.{is_asker, is_last, permitted}
use Rattle.grid_types.specs.Requests.{asked_of, bytes_of, deadline_of, held as held_place, is_barred, is_reserved, is_settled, is_taken, is_unsettled, place, place_by, settled, taken, unsettled, unsettled_bytes, waiting}
use Rattle.grid_types.specs.Sessions.{IsRunning, is_at_node, is_live, live}
use Rattle.grid_types.specs.Slots.{Holder, busy, closing, free, has_slot_in_use, held, held_count, holder, is_busy, is_free, is_held_by, is_held_slot, is_listed, names_slot, slot_at, slot_eq}
use Rattle.grid_types.specs.Tables.{entry}
use Rattle.grid_types.specs.Laws.{CallsGiveGoodTokens, CallsStayLegal, ClosingsStayGood, LegalHistoriesAreSafe, ReservationsStayGood, ReservationsTellTheSame, TicketsStayGood, TicketsTellTheSame}
use Rattle.grid_types.specs.OneMoreEntry.{CountMoves, NumberedOneByOne, QueueMoves}
use Rattle.grid_types.specs.Told.{Fits, HasSlot, MayBind, HoldsOne}

-- the laws by which the crates above are proved
pub record HistoryLaws : Type 0 where
  -- a legal history without its newest entry is legal, and that entry was permitted
  pub legal-before : (config : HubConfig) (newest : Entry) (history : List Entry) →
      legal config (newest ∷ history) ≡ true → legal config history ≡ true
  pub legal-permitted : (config : HubConfig) (newest : Entry) (history : List Entry) →
      legal config (newest ∷ history) ≡ true →
      permitted config history newest.caller newest.change ≡ true
  -- what a permitted change tells
  pub permitted-Registered : (config : HubConfig) (history : List Entry) (caller node : ℕ)
      (registration : Registration) (at : Moment) →
      permitted config history caller (change.Registered node registration at) ≡ true →
      node ≡ next_node config history
  pub permitted-Draining : (config : HubConfig) (history : List Entry) (caller node : ℕ)
      (at : Moment) →
      permitted config history caller (change.Draining node at) ≡ true →
      is_base_up history node ≡ true
  pub permitted-Queued : (config : HubConfig) (history : List Entry) (caller request : ℕ)
      (choices : List (List Cap)) (deadline at : Moment) →
      permitted config history caller (change.Queued request choices deadline at) ≡ true →
      request ≡ next_request config history
  pub permitted-Queued_room : (config : HubConfig) (history : List Entry) (caller request : ℕ)
      (choices : List (List Cap)) (deadline at : Moment) →
      permitted config history caller (change.Queued request choices deadline at) ≡ true →
      (length (unsettled history) < config.queue_requests)
      × (unsettled_bytes history + request_bytes choices ≤ 268_435_456)
  pub permitted-Reserved : (config : HubConfig) (history : List Entry) (caller request : ℕ)
      (slot : SlotId) (choice : ℕ) (at : Moment) →
      permitted config history caller (change.Reserved request slot choice at) ≡ true →
      Fits history request choice slot at.0
  pub permitted-Bound : (config : HubConfig) (history : List Entry) (caller request : ℕ)
      (slot : SlotId) (session : List ℕ) (capabilities : List Cap) (at : Moment) →
      permitted config history caller (change.Bound request slot session capabilities at) ≡ true →
      MayBind history caller request slot session capabilities
  pub permitted-Failed : (config : HubConfig) (history : List Entry) (caller request : ℕ)
      (slot : SlotId) (reason : FailWhy) (orphan : Option (List ℕ)) (last : Bool) (at : Moment) →
      permitted config history caller (change.Failed request slot reason orphan last at) ≡ true →
      HasSlot history caller request slot
  pub permitted-last : (config : HubConfig) (history : List Entry) (caller request : ℕ)
      (slot : SlotId) (reason : FailWhy) (orphan : Option (List ℕ)) (last : Bool) (at : Moment) →
      permitted config history caller (change.Failed request slot reason orphan last at) ≡ true →
      last ≡ is_last history request slot
  pub permitted-TimedOut : (config : HubConfig) (history : List Entry) (caller request : ℕ)
      (at : Moment) →
      permitted config history caller (change.TimedOut request at) ≡ true →
      (is_unsettled (place history request) ≡ true) × (deadline_of history request ≤ at.0)
  pub permitted-Cleared : (config : HubConfig) (history : List Entry) (caller request : ℕ)
      (at : Moment) →
      permitted config history caller (change.Cleared request at) ≡ true →
      place history request ≡ waiting
  pub permitted-Taken : (config : HubConfig) (history : List Entry) (caller request : ℕ)
      (at : Moment) →
      permitted config history caller (change.Taken request at) ≡ true →
      (is_settled history request ≡ true) × (is_taken history request ≡ false)
      × (is_asker history caller request ≡ true)
  pub permitted-Ended : (config : HubConfig) (history : List Entry) (caller binding : ℕ)
      (ending : EndCause) (at : Moment) →
      permitted config history caller (change.Ended binding ending at) ≡ true →
      is_live history binding ≡ true
  pub permitted-Freed : (config : HubConfig) (history : List Entry) (caller : ℕ)
      (slot : SlotId) →
      permitted config history caller (change.Freed slot) ≡ true → holder history slot ≡ closing
  pub last-unsettled : (history : List Entry) (request : ℕ) (slot : SlotId) →
      is_last history request slot ≡ true → is_settled history request ≡ false
  -- what fits and what is chosen
  pub fits-tells : (history : List Entry) (request choice : ℕ) (slot : SlotId) (moment : ℕ) →
      fits history request choice slot moment ≡ true → Fits history request choice slot moment
  pub chosen-fits : (history : List Entry) (moment : ℕ) (assignment : Assignment) →
      chosen history moment ≡ Some assignment →
      fits history assignment.request assignment.choice assignment.slot moment ≡ true
  pub chosen-only : (history : List Entry) (moment : ℕ) (assignment : Assignment) →
      fits history assignment.request assignment.choice assignment.slot moment ≡ true →
      ((request choice : ℕ) (slot : SlotId) → fits history request choice slot moment ≡ true →
      assignment_before history (record { request = request; choice = choice; slot = slot })
      assignment ≡ false) →
      chosen history moment ≡ Some assignment
  pub wanted-there : (wanted stereotype : Option (List Cap)) →
      matches_there wanted stereotype ≡ true → is_some wanted ≡ true
  -- nodes: whether they are registered, up and listed, their numbers and their slots
  pub base-registration : (config : HubConfig) (history : List Entry) (node : ℕ) →
      legal config history ≡ true →
      is_some (base_of history node) ≡ is_some (registration_of history node)
  pub base_up-registered : (history : List Entry) (node : ℕ) → is_base_up history node ≡ true →
      is_registered history node ≡ true
  pub up-registered : (history : List Entry) (node : ℕ) → is_up history node ≡ true →
      is_registered history node ≡ true
  pub registered-known : (config : HubConfig) (history : List Entry) (node : ℕ) →
      legal config history ≡ true → is_registered history node ≡ true →
      is_some (registration_of history node) ≡ true
  pub registration-before : (history : List Entry) (caller node : ℕ) (new : Change) →
      registration_of (entry caller new ∷ history) node ≡ None → registration_of history node ≡ None
  pub new-node : (config : HubConfig) (history : List Entry) (caller node : ℕ)
      (registration : _) (at : _) →
      legal config history ≡ true →
      permitted config history caller (change.Registered node registration at) ≡ true →
      registration_of history node ≡ None
  pub node-below_next : (config : HubConfig) (history : List Entry) (node : ℕ) →
      legal config history ≡ true → is_some (registration_of history node) ≡ true →
      node < next_node config history
  pub listed-before : (config : HubConfig) (history : List Entry) (caller node : ℕ)
      (new : Change) →
      legal config (entry caller new ∷ history) ≡ true →
      is_listed (entry caller new ∷ history) node ≡ true →
      (registration_of history node ≡ None) ⊎ (is_listed history node ≡ true)
  pub listed-registered : (config : HubConfig) (history : List Entry) (node : ℕ) →
      legal config history ≡ true → is_listed history node ≡ true →
      (registration : Registration) × (registration_of history node ≡ Some registration)
  pub turned-within : (history : List Entry) (node : ℕ) → turned history node ≤ length history
  pub slot-registered : (history : List Entry) (node index : ℕ) →
      index < length (stereotypes_of history node) → is_some (registration_of history node) ≡ true
  pub used-slot : (config : HubConfig) (history : List Entry) (slot : SlotId) →
      legal config history ≡ true → is_free (holder history slot) ≡ false →
      slot.index < length (stereotypes_of history slot.node)
  -- slots: which are free, and how many are held
  pub held-is : (request : ℕ) (state : Holder) → is_held_by request state ≡ true →
      state ≡ held request
  pub unlisted-free : (config : HubConfig) (history : List Entry) (node : ℕ) (slot : SlotId) →
      legal config history ≡ true → has_slot_in_use history node ≡ false →
      nat_eq node slot.node ≡ true → holder history slot ≡ free
  pub unregistered-free : (config : HubConfig) (history : List Entry) (node : ℕ)
      (slot : SlotId) →
      legal config history ≡ true → is_some (registration_of history node) ≡ false →
      nat_eq node slot.node ≡ true → holder history slot ≡ free
  pub past-free : (config : HubConfig) (history : List Entry) (node index : ℕ) →
      legal config history ≡ true → length (stereotypes_of history node) ≤ index →
      not (is_free (holder history (slot_at node (0 + index)))) ≡ false
  pub held-same : (history other : List Entry) (node : ℕ) →
      stereotypes_of other node ≡ stereotypes_of history node →
      ((slot : SlotId) → slot.node ≡ node →
      is_held_slot (holder other slot) ≡ is_held_slot (holder history slot)) →
      held_count other node ≡ held_count history node
  pub held-Bound : (config : HubConfig) (history : List Entry) (caller request : ℕ)
      (slot : SlotId) (session : List ℕ) (capabilities : List Cap) (at : Moment) →
      legal config history ≡ true →
      permitted config history caller (change.Bound request slot session capabilities at) ≡ true →
      held_count history slot.node
      ≡ held_count
      (entry caller (change.Bound request slot session capabilities at) ∷ history) slot.node
      + 1
  pub held-Ended : (config : HubConfig) (history : List Entry) (caller binding node : ℕ)
      (ending : EndCause) (at : Moment) →
      legal config history ≡ true →
      permitted config history caller (change.Ended binding ending at) ≡ true →
      held_count (entry caller (change.Ended binding ending at) ∷ history) node
      ≡ held_count history node
  pub held-Lapsed : (history : List Entry) (caller named node : ℕ) (at : Moment) →
      held_count (entry caller (change.Lapsed named at) ∷ history) node ≡ held_count history node
  -- requests: their places, and who holds them
  pub asked-listed : (history : List Entry) (request : ℕ) →
      is_some (asked_of history request) ≡ true →
      list_any (nat_eq request) (requests history) ≡ true
  pub barred-asked : (config : HubConfig) (history : List Entry) (request node : ℕ) →
      legal config history ≡ true → is_barred history request node ≡ true →
      is_some (asked_of history request) ≡ true
  pub reserved-asked : (config : HubConfig) (history : List Entry) (request : ℕ) →
      legal config history ≡ true → is_reserved history request ≡ true →
      is_some (asked_of history request) ≡ true
  pub requests-distinct : (config : HubConfig) (history : List Entry) →
      legal config history ≡ true →
      (is_distinct (requests history) ≡ true)
      × (list_all (λ number. nat_lt number (next_request config history)) (requests history) ≡ true)
  pub new-request : (config : HubConfig) (history : List Entry) (caller request : ℕ)
      (choices : List (List Cap)) (deadline at : Moment) →
      legal config history ≡ true →
      permitted config history caller (change.Queued request choices deadline at) ≡ true →
      is_some (asked_of history request) ≡ false
  pub holds-one : (config : HubConfig) (history : List Entry) → legal config history ≡ true →
      HoldsOne history
  pub place-held : (config : HubConfig) (history : List Entry) (slot : SlotId) (request : ℕ) →
      legal config history ≡ true → holder history slot ≡ held request →
      is_settled history request ≡ false → place history request ≡ held_place
  pub taken-settled : (config : HubConfig) (history : List Entry) (request : ℕ) →
      legal config history ≡ true → is_taken history request ≡ true →
      is_settled history request ≡ true
  pub closed : (history : List Entry) (request : ℕ) → is_settled history request ≡ true →
      is_unsettled (place history request) ≡ false
  pub is_settled-bound : (history : List Entry) (binding : ℕ) (running : Running) →
      bound_of history binding ≡ Some running → is_settled history binding ≡ true
  pub unsettled-held : (handed_out : Bool) (result : Option Outcome) (reserved asked : Bool) →
      place_by handed_out result reserved asked ≡ held_place → is_some result ≡ false
  pub unsettled-parts : (handed_out : Bool) (result : Option Outcome) (reserved asked : Bool) →
      is_unsettled (place_by handed_out result reserved asked) ≡ true →
      (is_some result ≡ false) × ((reserved ≡ true) ⊎ (asked ≡ true))
  pub waiting-parts : (handed_out : Bool) (result : Option Outcome) (reserved asked : Bool) →
      place_by handed_out result reserved asked ≡ waiting →
      (is_some result ≡ false) × (reserved ≡ false) × (asked ≡ true)
  pub place-Queued : (config : HubConfig) (history : List Entry) (caller named request : ℕ)
      (choices : List (List Cap)) (deadline at : Moment) →
      legal config history ≡ true →
      permitted config history caller (change.Queued named choices deadline at) ≡ true →
      place (entry caller (change.Queued named choices deadline at) ∷ history) request
      ≡ (if nat_eq named request then waiting else place history request)
  pub place-Reserved : (config : HubConfig) (history : List Entry) (caller named request : ℕ)
      (slot : SlotId) (choice : ℕ) (at : Moment) →
      permitted config history caller (change.Reserved named slot choice at) ≡ true →
      place (entry caller (change.Reserved named slot choice at) ∷ history) request
      ≡ (if nat_eq named request then held_place else place history request)
  pub place-Bound : (config : HubConfig) (history : List Entry) (caller named request : ℕ)
      (slot : SlotId) (session : List ℕ) (capabilities : List Cap) (at : Moment) →
      permitted config history caller (change.Bound named slot session capabilities at) ≡ true →
      place (entry caller (change.Bound named slot session capabilities at) ∷ history) request
      ≡ (if nat_eq named request
      then settled (outcome.Created session capabilities slot (address_of history slot.node) named)
      else place history request)
  pub place-Failed : (config : HubConfig) (history : List Entry) (caller named request : ℕ)
      (slot : SlotId) (reason : FailWhy) (orphan : Option (List ℕ)) (last : Bool) (at : Moment) →
      legal config history ≡ true →
      permitted config history caller (change.Failed named slot reason orphan last at) ≡ true →
      place (entry caller (change.Failed named slot reason orphan last at) ∷ history) request
      ≡ (if nat_eq named request
      then (if last then settled (outcome.StartFailed reason)
      else if is_settled history named then place history named
      else waiting)
      else place history request)
  pub place-TimedOut : (config : HubConfig) (history : List Entry) (caller named request : ℕ)
      (at : Moment) →
      permitted config history caller (change.TimedOut named at) ≡ true →
      place (entry caller (change.TimedOut named at) ∷ history) request
      ≡ (if nat_eq named request
      then settled (outcome.TimedOut (record { 0 = deadline_of history named }))
      else place history request)
  pub place-Cleared : (config : HubConfig) (history : List Entry) (caller named request : ℕ)
      (at : Moment) →
      permitted config history caller (change.Cleared named at) ≡ true →
      place (entry caller (change.Cleared named at) ∷ history) request
      ≡ (if nat_eq named request then settled outcome.Cleared else place history request)
  pub place-Taken : (history : List Entry) (caller named request : ℕ) (at : Moment) →
      place (entry caller (change.Taken named at) ∷ history) request
      ≡ (if nat_eq named request then taken else place history request)
  -- the requests that are not settled, and their bytes
  pub unsettled-few : (config : HubConfig) (history : List Entry) →
      legal config history ≡ true → length (unsettled history) ≤ unsettled_bytes history
  pub unsettled-same : (history other : List Entry) → requests other ≡ requests history →
      ((request : ℕ) → is_unsettled (place other request) ≡ is_unsettled (place history request)) →
      unsettled other ≡ unsettled history
  pub unsettled-Queued : (config : HubConfig) (history : List Entry) (caller request : ℕ)
      (choices : List (List Cap)) (deadline at : Moment) →
      legal config history ≡ true →
      permitted config history caller (change.Queued request choices deadline at) ≡ true →
      unsettled (entry caller (change.Queued request choices deadline at) ∷ history)
      ≡ unsettled history ++ request ∷ []
  pub unsettled-Reserved : (config : HubConfig) (history : List Entry) (caller request : ℕ)
      (slot : SlotId) (choice : ℕ) (at : Moment) →
      permitted config history caller (change.Reserved request slot choice at) ≡ true →
      unsettled (entry caller (change.Reserved request slot choice at) ∷ history)
      ≡ unsettled history
  pub unsettled-Bound : (config : HubConfig) (history : List Entry) (caller request : ℕ)
      (slot : SlotId) (session : List ℕ) (capabilities : List Cap) (at : Moment) →
      permitted config history caller (change.Bound request slot session capabilities at) ≡ true →
      unsettled (entry caller (change.Bound request slot session capabilities at) ∷ history)
      ≡ filter (λ other. not (nat_eq request other)) (unsettled history)
  pub unsettled-Failed_last : (config : HubConfig) (history : List Entry) (caller request : ℕ)
      (slot : SlotId) (reason : FailWhy) (orphan : Option (List ℕ)) (at : Moment) →
      legal config history ≡ true →
      permitted config history caller (change.Failed request slot reason orphan true at) ≡ true →
      unsettled (entry caller (change.Failed request slot reason orphan true at) ∷ history)
      ≡ filter (λ other. not (nat_eq request other)) (unsettled history)
  pub unsettled-TimedOut : (config : HubConfig) (history : List Entry) (caller request : ℕ)
      (at : Moment) →
      permitted config history caller (change.TimedOut request at) ≡ true →
      unsettled (entry caller (change.TimedOut request at) ∷ history)
      ≡ filter (λ other. not (nat_eq request other)) (unsettled history)
  pub unsettled-Cleared : (config : HubConfig) (history : List Entry) (caller request : ℕ)
      (at : Moment) →
      permitted config history caller (change.Cleared request at) ≡ true →
      unsettled (entry caller (change.Cleared request at) ∷ history)
      ≡ filter (λ other. not (nat_eq request other)) (unsettled history)
  pub unsettled_bytes-Queued : (config : HubConfig) (history : List Entry)
      (caller request : ℕ) (choices : List (List Cap)) (deadline at : Moment) →
      legal config history ≡ true →
      permitted config history caller (change.Queued request choices deadline at) ≡ true →
      unsettled_bytes (entry caller (change.Queued request choices deadline at) ∷ history)
      ≡ unsettled_bytes history + request_bytes choices
  pub unsettled_bytes-without : (config : HubConfig) (history : List Entry) (request : ℕ) →
      legal config history ≡ true → list_any (nat_eq request) (unsettled history) ≡ true →
      unsettled_bytes history
      ≡ total (bytes_of history) (filter (λ other. not (nat_eq request other)) (unsettled history))
      + bytes_of history request
  -- sessions: which run, where, and by which binding
  pub has-bindings : (history : List Entry) (binding : ℕ) →
      has binding (bindings history) ≡ is_some (bound_of history binding)
  pub bound-binding : (history : List Entry) (binding : ℕ) (running : Running) →
      bound_of history binding ≡ Some running → running.binding ≡ binding
  pub running-before : (history : List Entry) (caller : ℕ) (new : Change) (running : Running) →
      IsRunning (entry caller new ∷ history) running →
      (running_told history new ≡ Some running) ⊎ IsRunning history running
  pub running-of : (history : List Entry) (binding : ℕ) → is_live history binding ≡ true →
      (running : Running) × (IsRunning history running) × (running.binding ≡ binding)
  pub busy-running : (config : HubConfig) (history : List Entry) (running : Running) →
      legal config history ≡ true → IsRunning history running →
      holder history running.slot ≡ busy running.session
  pub ended-busy : (config : HubConfig) (history : List Entry) (slot : SlotId) (binding : ℕ) →
      legal config history ≡ true → is_live history binding ≡ true →
      names_slot slot (bound_slot history binding) ≡ true → is_busy (holder history slot) ≡ true
  pub live-of : (config : HubConfig) (history : List Entry) (session : List ℕ)
      (running : Running) →
      legal config history ≡ true → IsRunning history running → running.session ≡ session →
      live history session ≡ Some running
  pub live-running : (config : HubConfig) (history : List Entry) (running : Running) →
      legal config history ≡ true → IsRunning history running →
      live history running.session ≡ Some running
  pub running-live : (config : HubConfig) (history : List Entry) (session : List ℕ)
      (running : Running) →
      legal config history ≡ true → live history session ≡ Some running →
      IsRunning history running × (running.session ≡ session)
  pub live-Bound : (config : HubConfig) (history : List Entry) (caller request : ℕ)
      (slot : SlotId) (named : List ℕ) (capabilities : List Cap) (at : Moment) (session : List ℕ) →
      legal config (entry caller (change.Bound request slot named capabilities at) ∷ history)
      ≡ true →
      live (entry caller (change.Bound request slot named capabilities at) ∷ history) session
      ≡ (if bytes_eq named session
      then Some (record {
        session = named;
        slot = slot;
        address = address_of history slot.node;
        binding = request;
      })
      else live history session)
  pub live-Ended : (history : List Entry) (caller binding : ℕ) (ending : EndCause)
      (at : Moment) (session : List ℕ) →
      live (entry caller (change.Ended binding ending at) ∷ history) session
      ≡ (if is_binding binding (live history session) then None else live history session)
  pub live-Lapsed : (config : HubConfig) (history : List Entry) (caller node : ℕ)
      (at : Moment) (session : List ℕ) →
      legal config history ≡ true →
      live (entry caller (change.Lapsed node at) ∷ history) session
      ≡ (if is_at_node node (live history session) then None else live history session)
  -- equal slots and equal texts
  pub slot_eq-is : (first second : SlotId) → slot_eq first second ≡ true → first ≡ second
  pub slot_eq-same : (slot : SlotId) → slot_eq slot slot ≡ true
  pub bytes_eq-is : (first second : List ℕ) → bytes_eq first second ≡ true → first ≡ second
  pub bytes_eq-same : (bytes : List ℕ) → bytes_eq bytes bytes ≡ true
  -- a journal with one more entry
  pub history-push : (journal : List Entry) (newest : Entry) →
      history_of (journal ++ newest ∷ []) ≡ newest ∷ history_of journal
  -- lists of numbers: members, the least, distinct ones, what all are
  pub has-filter : (test : ℕ → Bool) (number : ℕ) (numbers : List ℕ) →
      has number (filter test numbers) ≡ (test number && has number numbers)
  pub has-last : (number last : ℕ) (numbers : List ℕ) →
      has number (numbers ++ last ∷ []) ≡ (has number numbers || nat_eq number last)
  pub any-kept : (test : ℕ → Bool) (number : ℕ) (numbers : List ℕ) → test number ≡ true →
      list_any (nat_eq number) numbers ≡ true →
      list_any (nat_eq number) (filter test numbers) ≡ true
  pub reduce-least : (numbers : List ℕ) → reduce min numbers ≡ least nat_lt numbers
  pub least-same : (numbers others : List ℕ) →
      ((number : ℕ) → has number numbers ≡ has number others) →
      reduce min numbers ≡ least nat_lt others
  pub least-below : (numbers : List ℕ) (lowest number : ℕ) →
      least nat_lt numbers ≡ Some lowest → has number numbers ≡ true → lowest ≤ number
  pub least-none : (before : ℕ → ℕ → Bool) (numbers : List ℕ) → least before numbers ≡ None →
      numbers ≡ []
  pub least-all : (before : ℕ → ℕ → Bool) (test : ℕ → Bool) (numbers : List ℕ) (lowest : ℕ) →
      list_all test numbers ≡ true → least before numbers ≡ Some lowest → test lowest ≡ true
  pub all-filter : (test other : ℕ → Bool) (numbers : List ℕ) → list_all test numbers ≡ true →
      list_all test (filter other numbers) ≡ true
  pub all-passed : (test : ℕ → Bool) (numbers : List ℕ) → list_all test (filter test numbers) ≡ true
  pub distinct-filter : (test : ℕ → Bool) (numbers : List ℕ) → is_distinct numbers ≡ true →
      is_distinct (filter test numbers) ≡ true
  pub total-without : (size : ℕ → ℕ) (number : ℕ) (numbers : List ℕ) →
      is_distinct numbers ≡ true → list_any (nat_eq number) numbers ≡ true →
      total size numbers
      ≡ total size (filter (λ other. not (nat_eq number other)) numbers) + size number
  -- both and either
  pub and_left : (first second : Bool) → (first && second) ≡ true → first ≡ true
  pub and_right : (first second : Bool) → (first && second) ≡ true → second ≡ true
  pub or_left : (first second : Bool) → (first || second) ≡ false → first ≡ false
  pub or_right : (first second : Bool) → (first || second) ≡ false → second ≡ false
  pub all-at : (test : ℕ → Bool) (number : ℕ) (numbers : List ℕ) →
      list_all test numbers ≡ true → has number numbers ≡ true → test number ≡ true
  pub all-of : (test : ℕ → Bool) (numbers : List ℕ) →
      ((number : ℕ) → has number numbers ≡ true → test number ≡ true) → list_all test numbers ≡ true
  -- what one more entry does, and the laws of calls and tokens
  pub numbered : (config : HubConfig) → NumberedOneByOne config
  pub count-moves : CountMoves
  pub queue-moves : (config : HubConfig) → QueueMoves config
  pub legal-safe : LegalHistoriesAreSafe
  pub calls-stay-legal : CallsStayLegal
  pub calls-give-good : CallsGiveGoodTokens
  pub tickets-stay-good : TicketsStayGood
  pub reservations-stay-good : ReservationsStayGood
  pub closings-stay-good : ClosingsStayGood
  pub tickets-tell-the-same : TicketsTellTheSame
  pub reservations-tell-the-same : ReservationsTellTheSame

-- the same, closed, so that a search goes through none of these laws unless it is given one
unfoldable pub Known : Type 0
Known = HistoryLaws

-- the laws, opened
pub laws : Known → HistoryLaws
unfolding Known
laws proved = proved
