-- What a history says of a node.
use Rattle.std.specs.Prelude.{ℕ, ◌+◌, Bool, true, false, if◌then◌else◌, ◌&&◌, nat_eq, List, [], length, Option, None, Some, option_map, option_and_then, unwrap_or, flat_map, replicate}
use Rattle.grid_types.specs.declared.entry.Entry.{Entry}
use Rattle.grid_types.specs.declared.entry.Change.{Change}
use Rattle.grid_types.specs.declared.entry.Change.TheVariants as change
use Rattle.grid_types.specs.declared.view.Standing.{Standing}
use Rattle.grid_types.specs.declared.view.Standing.TheVariants as standing
use Rattle.grid_types.specs.declared.capabilities.Cap.{Cap}
use Rattle.grid_types.specs.declared.capabilities.SlotGroup.{SlotGroup}
use Rattle.grid_types.specs.declared.capabilities.Registration.{Registration}
use Rattle.grid_types.specs.Lists.{when, how_many}
use Rattle.grid_types.specs.History.{last_told}

-- the base of a node's standing that a change gives it
abbrev pub base_told : ℕ → Change → Option Standing
base_told node (change.Registered named registration at) = when (nat_eq named node) standing.Up
base_told node (change.Draining named at) = when (nat_eq named node) standing.Draining
base_told node (change.Removed named at) = when (nat_eq named node) standing.Gone
base_told node (change.Lapsed named at) = when (nat_eq named node) standing.Down
base_told node other = None

-- a node's base, by its last entry that tells one; none before its registration
abbrev pub base_of : List Entry → ℕ → Option Standing
base_of history node = last_told (λ _ entry. base_told node entry.change) history

-- a change suspects the node, or beats for it
abbrev pub suspicion_told : ℕ → Change → Option Bool
suspicion_told node (change.Suspected named at) = when (nat_eq named node) true
suspicion_told node (change.Beaten named at) = when (nat_eq named node) false
suspicion_told node other = None

-- the node was suspected, and has not beaten since
abbrev pub is_suspected : List Entry → ℕ → Bool
is_suspected history node =
    unwrap_or (last_told (λ _ entry. suspicion_told node entry.change) history) false

-- it is Up
abbrev pub stands_up : Option Standing → Bool
stands_up (Some standing.Up) = true
stands_up other = false

-- it is Draining
abbrev pub stands_draining : Option Standing → Bool
stands_draining (Some standing.Draining) = true
stands_draining other = false

-- it is Up or Draining
abbrev pub stands_registered : Option Standing → Bool
stands_registered (Some standing.Up) = true
stands_registered (Some standing.Draining) = true
stands_registered other = false

-- the node is registered: its base is Up or Draining
abbrev pub is_registered : List Entry → ℕ → Bool
is_registered history node = stands_registered (base_of history node)

-- its base is Up: it was not drained, and may be suspect
abbrev pub is_base_up : List Entry → ℕ → Bool
is_base_up history node = stands_up (base_of history node)

-- its base is Draining: it was drained, and may be suspect
abbrev pub is_draining : List Entry → ℕ → Bool
is_draining history node = stands_draining (base_of history node)

-- it is registered, was suspected and has not beaten since
abbrev pub is_suspect : List Entry → ℕ → Bool
is_suspect history node = is_registered history node && is_suspected history node

-- a node's standing: Suspect while it is suspect, else its base
abbrev pub standing_of : List Entry → ℕ → Option Standing
standing_of history node =
    if is_suspect history node then Some standing.Suspect else base_of history node

-- its standing is Up: it takes new sessions
abbrev pub is_up : List Entry → ℕ → Bool
is_up history node = stands_up (standing_of history node)

-- the moment of a change that is a sign of the node's life
abbrev pub beat_told : ℕ → Change → Option ℕ
beat_told node (change.Registered named registration at) = when (nat_eq named node) at.0
beat_told node (change.Beaten named at) = when (nat_eq named node) at.0
beat_told node other = None

-- the moment of a node's last beat or of its registration, 0 where it never registered
abbrev pub beat_of : List Entry → ℕ → ℕ
beat_of history node = unwrap_or (last_told (λ _ entry. beat_told node entry.change) history) 0

-- the change reserves a slot of the node
abbrev pub turned_told : ℕ → Change → Bool
turned_told node (change.Reserved request slot choice at) = nat_eq slot.node node
turned_told node other = false

-- the place in the history, from 1, of the last reservation on a node, 0 where there is none
abbrev pub turned : List Entry → ℕ → ℕ
turned history node =
    unwrap_or
    (last_told (λ before entry. when (turned_told node entry.change) (length before + 1)) history) 0

-- the registration that a change gives the node
abbrev pub registration_told : ℕ → Change → Option Registration
registration_told node (change.Registered named registration at) =
    when (nat_eq named node) registration
registration_told node other = None

-- what a node said of itself when it registered
abbrev pub registration_of : List Entry → ℕ → Option Registration
registration_of history node = last_told (λ _ entry. registration_told node entry.change) history

-- a node's address, empty where it never registered
abbrev pub address_of : List Entry → ℕ → List ℕ
address_of history node =
    unwrap_or (option_map (λ registration. registration.address) (registration_of history node)) []

-- how many of a node's slots may be in use at once
abbrev pub max_of : List Entry → ℕ → ℕ
max_of history node =
    unwrap_or
    (option_map (λ registration. registration.max_sessions) (registration_of history node)) 0

-- the stereotype of each slot, through the groups in order
abbrev pub stereotypes : List SlotGroup → List (List Cap)
stereotypes groups = flat_map (λ group. replicate group.count group.stereotype) groups

-- the stereotype of each of a node's slots, by their numbers
abbrev pub stereotypes_of : List Entry → ℕ → List (List Cap)
stereotypes_of history node =
    unwrap_or
    (option_map (λ registration. stereotypes registration.groups) (registration_of history node)) []

-- the count of sessions after which the node drains, where it has one
abbrev pub drain_after_of : List Entry → ℕ → Option ℕ
drain_after_of history node =
    option_and_then (λ registration. registration.drain_after) (registration_of history node)

-- the change binds a session on the node
abbrev pub binds_on : ℕ → Change → Bool
binds_on node (change.Bound request slot session capabilities at) = nat_eq slot.node node
binds_on node other = false

-- how many sessions were bound on the node in all
abbrev pub bound_count : List Entry → ℕ → ℕ
bound_count history node = how_many (λ entry. binds_on node entry.change) history

-- there is a limit, and the count is at it
abbrev pub is_at_limit : Option ℕ → ℕ → Bool
is_at_limit None count = false
is_at_limit (Some limit) count = nat_eq count limit

-- as many sessions were bound on the node as it drains after
abbrev pub is_spent : List Entry → ℕ → Bool
is_spent history node = is_at_limit (drain_after_of history node) (bound_count history node)
