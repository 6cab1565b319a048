-- What a table of the hub promises by its calls. A table stands for histories, by a relation of its
-- own; a call says what the table stands for afterwards, for each history that it stood for before.
use Rattle.std.specs.Prelude.{◌≡◌, ℕ, Bool, true, false, List, ◌∷◌}
use Rattle.grid_types.specs.declared.entry.Entry.{Entry}
use Rattle.grid_types.specs.declared.entry.Change.{Change}
use Rattle.grid_types.specs.declared.entry.Change.TheVariants as change
use Rattle.grid_types.specs.declared.config.HubConfig.{HubConfig}
use Rattle.grid_types.specs.Legal.{legal}

-- an entry of a history
abbrev pub entry : ℕ → Change → Entry
entry caller change = record { caller = caller; change = change }

-- for whatever history the old table stands, the new one stands for it with this change after it,
-- where that is legal
pub record Follows {T : Type 0} (stands : T → List Entry → Type 0) (old new : T) (caller : ℕ)
    (change : Change) : Type 0 where
  pub after : (config : HubConfig) (history : List Entry) → stands old history →
      legal config (entry caller change ∷ history) ≡ true →
      stands new (entry caller change ∷ history)

-- the same for the histories of which what the call was given holds
pub record FollowsGiven {T : Type 0} (stands : T → List Entry → Type 0)
    (given : List Entry → Type 0) (old new : T) (caller : ℕ) (change : Change) : Type 0 where
  pub after : (config : HubConfig) (history : List Entry) → given history → stands old history →
      legal config (entry caller change ∷ history) ≡ true →
      stands new (entry caller change ∷ history)

-- for whatever history the old table stands, the new one stands for it
pub record Keeps {T : Type 0} (stands : T → List Entry → Type 0) (old new : T) : Type 0 where
  pub still : (history : List Entry) → stands old history → stands new history

-- the same for the legal histories of which something holds
pub record KeepsWhere {T : Type 0} (stands : T → List Entry → Type 0)
    (is_so : List Entry → Type 0) (old new : T) : Type 0 where
  pub still : (config : HubConfig) (history : List Entry) → stands old history →
      legal config history ≡ true → is_so history → stands new history

-- the fact holds of each legal history that the table stands for
pub record Tells {T : Type 0} (stands : T → List Entry → Type 0) (table : T)
    (fact : List Entry → Type 0) : Type 0 where
  pub of : (config : HubConfig) (history : List Entry) → stands table history →
      legal config history ≡ true → fact history

-- a change of a kind that the table doesn't take leaves it standing
abbrev pub OthersKeep : {T : Type 0} → (T → List Entry → Type 0) → (Change → Bool) → Type 0
OthersKeep {T = T} stands takes =
    (table : T) (caller : ℕ) (new : Change) → takes new ≡ false →
    Follows stands table table caller new

-- the changes that the table of nodes takes
abbrev pub is_node_change : Change → Bool
is_node_change (change.Registered node registration at) = true
is_node_change (change.Beaten node at) = true
is_node_change (change.Draining node at) = true
is_node_change (change.Removed node at) = true
is_node_change (change.Lapsed node at) = true
is_node_change (change.Reserved request slot choice at) = true
is_node_change (change.Bound request slot session capabilities at) = true
is_node_change (change.Suspected node at) = true
is_node_change other = false

-- the changes that the table of requests takes
abbrev pub is_request_change : Change → Bool
is_request_change (change.Queued request choices deadline at) = true
is_request_change (change.Reserved request slot choice at) = true
is_request_change (change.Bound request slot session capabilities at) = true
is_request_change (change.Failed request slot reason orphan last at) = true
is_request_change (change.TimedOut request at) = true
is_request_change (change.Cleared request at) = true
is_request_change (change.Taken request at) = true
is_request_change other = false

-- the changes that the table of slots takes
abbrev pub is_slot_change : Change → Bool
is_slot_change (change.Registered node registration at) = true
is_slot_change (change.Reserved request slot choice at) = true
is_slot_change (change.Bound request slot session capabilities at) = true
is_slot_change (change.Failed request slot reason orphan last at) = true
is_slot_change (change.Ended binding ending at) = true
is_slot_change (change.Freed slot) = true
is_slot_change (change.Lapsed node at) = true
is_slot_change other = false

-- the changes that the table of sessions takes
abbrev pub is_session_change : Change → Bool
is_session_change (change.Bound request slot session capabilities at) = true
is_session_change (change.Touched binding at) = true
is_session_change (change.Ended binding ending at) = true
is_session_change (change.Lapsed node at) = true
is_session_change other = false
