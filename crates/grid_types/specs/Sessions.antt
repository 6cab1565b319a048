-- What a history says of a session.
use Rattle.std.specs.Prelude.{◌≡◌, ℕ, Bool, true, false, nat_eq, bytes_eq, List, Option, None, Some, is_some, unwrap_or, filter}
use Rattle.grid_types.specs.declared.entry.Entry.{Entry}
use Rattle.grid_types.specs.declared.entry.Change.{Change}
use Rattle.grid_types.specs.declared.entry.Change.TheVariants as change
use Rattle.grid_types.specs.declared.entry.Found.{Found}
use Rattle.grid_types.specs.declared.entry.Found.TheVariants as found
use Rattle.grid_types.specs.declared.names.SlotId.{SlotId}
use Rattle.grid_types.specs.Lists.{when, kept}
use Rattle.grid_types.specs.History.{last_told}
use Rattle.grid_types.specs.Bindings.{Running, running_told, bindings, bound_of, bound_slot}

-- there is a slot, and it is the node's
abbrev pub is_on_node : ℕ → Option SlotId → Bool
is_on_node node None = false
is_on_node node (Some slot) = nat_eq slot.node node

-- a Bound makes its binding live; its Ended, and a Lapsed of its node, end that
abbrev pub live_told : ℕ → List Entry → Change → Option Bool
live_told binding history (change.Bound named slot session capabilities at) =
    when (nat_eq named binding) true
live_told binding history (change.Ended named ending at) = when (nat_eq named binding) false
live_told binding history (change.Lapsed node at) =
    when (is_on_node node (bound_slot history binding)) false
live_told binding history other = None

-- a binding has its Bound, and no Ended of it and no Lapsed of its node after that
abbrev pub is_live : List Entry → ℕ → Bool
is_live history binding =
    unwrap_or (last_told (λ before entry. live_told binding before entry.change) history) false

-- it runs this session
abbrev pub is_of_session : List ℕ → Running → Bool
is_of_session session running = bytes_eq running.session session

-- a session runs: its binding is live, and was made by the Bound that tells this
pub record IsRunning (history : List Entry) (running : Running) : Type 0 where
  pub bound : bound_of history running.binding ≡ Some running
  pub live : is_live history running.binding ≡ true

-- what the session's last Bound tells
abbrev pub last_bound : List Entry → List ℕ → Option Running
last_bound history session =
    last_told (λ before entry. kept (is_of_session session) (running_told before entry.change))
    history

-- where the session is live: its last Bound, while that binding is live
abbrev pub live : List Entry → List ℕ → Option Running
live history session =
    kept (λ running. is_live history running.binding) (last_bound history session)

-- the session is live
abbrev pub is_live_session : List Entry → List ℕ → Bool
is_live_session history session = is_some (live history session)

-- the session runs on the node
abbrev pub is_at_node : ℕ → Option Running → Bool
is_at_node node None = false
is_at_node node (Some running) = nat_eq running.slot.node node

-- what a lookup finds
abbrev pub found_of : Option Running → Found
found_of None = found.NoSession
found_of (Some running) = found.At running.slot running.address running.binding

-- the moment of a change that binds or touches the binding
abbrev pub active_told : ℕ → Change → Option ℕ
active_told binding (change.Bound named slot session capabilities at) =
    when (nat_eq named binding) at.0
active_told binding (change.Touched named at) = when (nat_eq named binding) at.0
active_told binding other = None

-- the moment of a binding's last touch or of its Bound, 0 where there is none
abbrev pub active : List Entry → ℕ → ℕ
active history binding =
    unwrap_or (last_told (λ _ entry. active_told binding entry.change) history) 0

-- the live bindings, in order
abbrev pub live_bindings : List Entry → List ℕ
live_bindings history = filter (is_live history) (bindings history)
