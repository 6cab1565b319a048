-- The published map: a list of puts and removals, the newest first, and what is found in it.
use Rattle.std.specs.Prelude.{ℕ, if◌then◌else◌, bytes_eq, List, [], ◌∷◌, map, filter_map, Option, None, Some}
use Rattle.grid_types.specs.declared.entry.Entry.{Entry}
use Rattle.grid_types.specs.declared.entry.Change.{Change}
use Rattle.grid_types.specs.declared.entry.Change.TheVariants as change
use Rattle.grid_types.specs.Slots.{Holder, busy, holder, slots_of}
use Rattle.grid_types.specs.Nodes.{address_of}
use Rattle.grid_types.specs.Bindings.{Running, bound_of}
use Rattle.grid_types.specs.Sessions.{is_of_session}

-- a change of the map
pub data Item : Type 0 where
  put : (running : Running) → Item
  removal : (session : List ℕ) → Item

-- where the newest item of the session puts it; nothing where that removes it or there is none
abbrev pub find : List Item → List ℕ → Option Running
find [] session = None
find (put running ∷ items) session =
    if is_of_session session running then Some running else find items session
find (removal named ∷ items) session = if bytes_eq named session then None else find items session

-- the removal of a running session, where there is one
abbrev pub removal_of : Option Running → List Item
removal_of None = []
removal_of (Some running) = removal running.session ∷ []

-- the session in a busy slot
abbrev pub session_in : Holder → Option (List ℕ)
session_in (busy session) = Some session
session_in other = None

-- the sessions that a node's slots are busy with, by slot number
abbrev pub sessions_on : List Entry → ℕ → List (List ℕ)
sessions_on history node =
    filter_map (λ slot. session_in (holder history slot)) (slots_of history node)

-- what a change after the history publishes, in order
abbrev pub published_by : List Entry → Change → List Item
published_by history (change.Bound request slot session capabilities at) =
    put (record {
      session = session;
      slot = slot;
      address = address_of history slot.node;
      binding = request;
    })
    ∷ []
published_by history (change.Ended binding ending at) = removal_of (bound_of history binding)
published_by history (change.Lapsed node at) =
    map (λ session. removal session) (sessions_on history node)
published_by history other = []

-- the map's list with these items after it, in order
abbrev pub published : List Item → List Item → List Item
published items [] = items
published items (first ∷ rest) = published (first ∷ items) rest

-- the map's changes that a history makes, the newest first
abbrev pub changes : List Entry → List Item
changes [] = []
changes (entry ∷ history) = published (changes history) (published_by history entry.change)
