-- Safe histories: no slot holds two sessions and no session two slots, and each request is settled
-- and taken once at most.
use Rattle.std.specs.Prelude.{ℕ, ◌≤◌, ◌≡◌, ◌≢◌, true, List, ◌∷◌, ◌++◌, is_some, Contains}
use Rattle.grid_types.specs.declared.entry.Entry.{Entry}
use Rattle.grid_types.specs.declared.entry.Change.{Change}
use Rattle.grid_types.specs.declared.entry.Change.TheVariants as change
use Rattle.grid_types.specs.declared.names.SlotId.{SlotId}
use Rattle.grid_types.specs.declared.capabilities.Cap.{Cap}
use Rattle.grid_types.specs.Matching.{meets}
use Rattle.grid_types.specs.History.{BeginsWith}
use Rattle.grid_types.specs.Slots.{free, busy, holder}
use Rattle.grid_types.specs.Requests.{choices_of, deadline_of, asked_of}
use Rattle.grid_types.specs.Bindings.{Running}
use Rattle.grid_types.specs.Sessions.{IsRunning}

-- a change reserves the slot
abbrev pub reserves_slot : SlotId → Change → Type 0
reserves_slot slot (change.Reserved request named choice at) = named ≡ slot
reserves_slot slot other = ⊥

-- a change settles the request
abbrev pub settles : ℕ → Change → Type 0
settles request (change.Bound named slot session capabilities at) = named ≡ request
settles request (change.Failed named slot reason orphan last at) = (named ≡ request) × (last ≡ true)
settles request (change.TimedOut named at) = named ≡ request
settles request (change.Cleared named at) = named ≡ request
settles request other = ⊥

-- a change hands the request's outcome out
abbrev pub takes : ℕ → Change → Type 0
takes request (change.Taken named at) = named ≡ request
takes request other = ⊥

-- the capabilities of a Bound meet a choice that its request asked for
abbrev pub MeetsChoice : List Entry → Change → Type 0
MeetsChoice history (change.Bound request slot session capabilities at) =
    (wanted : List Cap) × Contains (choices_of history request) wanted
    × (meets wanted capabilities ≡ true)
MeetsChoice history other = Unit {0}

-- a time-out comes at the deadline or after it
abbrev pub IsInTime : List Entry → Change → Type 0
IsInTime history (change.TimedOut request at) = deadline_of history request ≤ at.0
IsInTime history other = Unit {0}

-- what is said of a history at one time
pub record IsSafeNow (history : List Entry) : Type 0 where
  -- between two reservations of one slot stands an entry after which the slot is free
  pub freed_between : (slot : SlotId) (newer between older : List Entry) (last first : Entry) →
      newer ++ (last ∷ (between ++ (first ∷ older))) ≡ history → reserves_slot slot last.change →
      reserves_slot slot first.change →
      (later earlier : List Entry) × (entry : Entry) × (later ++ (entry ∷ earlier) ≡ between)
      × (holder (entry ∷ (earlier ++ (first ∷ older))) slot ≡ free)
  -- two live bindings have different slots and different sessions
  pub different : (first second : Running) → IsRunning history first → IsRunning history second →
      first.binding ≢ second.binding →
      (first.slot ≢ second.slot) × (first.session ≢ second.session)
  -- the slot of a live binding is busy with its session
  pub busy_slot : (running : Running) → IsRunning history running →
      holder history running.slot ≡ busy running.session
  -- a request has one settling entry at most
  pub settled_once : (request : ℕ) (newer between older : List Entry) (last first : Entry) →
      newer ++ (last ∷ (between ++ (first ∷ older))) ≡ history → settles request last.change →
      settles request first.change → ⊥
  -- and that comes after its Queued
  pub settled_after : (request : ℕ) (newer older : List Entry) (entry : Entry) →
      newer ++ (entry ∷ older) ≡ history → settles request entry.change →
      is_some (asked_of older request) ≡ true
  -- a request has one Taken at most
  pub taken_once : (request : ℕ) (newer between older : List Entry) (last first : Entry) →
      newer ++ (last ∷ (between ++ (first ∷ older))) ≡ history → takes request last.change →
      takes request first.change → ⊥
  -- and that comes after its Queued
  pub taken_after : (request : ℕ) (newer older : List Entry) (entry : Entry) →
      newer ++ (entry ∷ older) ≡ history → takes request entry.change →
      is_some (asked_of older request) ≡ true
  -- the capabilities of a Bound meet a choice of its request
  pub meets_choice : (newer older : List Entry) (entry : Entry) →
      newer ++ (entry ∷ older) ≡ history → MeetsChoice older entry.change
  -- a TimedOut comes at its request's deadline or past it
  pub in_time : (newer older : List Entry) (entry : Entry) →
      newer ++ (entry ∷ older) ≡ history → IsInTime older entry.change

-- safe, and so was every history that it began with
abbrev pub IsSafe : List Entry → Type 0
IsSafe history = (older : List Entry) → BeginsWith history older → IsSafeNow older
