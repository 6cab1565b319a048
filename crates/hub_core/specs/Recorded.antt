-- What it is to record the changes of a call, beside a core.
use Rattle.std.specs.Prelude.{◌≡◌, ℕ, ◌+◌, ◌≤◌, Bool, true, List, ◌∷◌, length, Option}
use Rattle.grid_types.specs.declared.config.HubConfig.{HubConfig}
use Rattle.grid_types.specs.declared.entry.Entry.{Entry}
use Rattle.grid_types.specs.declared.entry.Change.{Change}
use Rattle.grid_types.specs.History.{clock, history_of}
use Rattle.grid_types.specs.Legal.{legal}
use Rattle.grid_types.specs.Tables.{entry}
use Rattle.grid_types.specs.Calls.{Call, Reply}
use Rattle.hub_core.specs.declared.hub.HubCore.{HubCore}
use Rattle.hub_core.specs.CoreStands.{Stands, later}
use Rattle.hub_core.specs.Kept.{places, places_of, room_for}
use Rattle.hub_core.specs.Serves.{MayCall, Serves}

-- the change goes on a history that is held, and its place was paid for
pub record MayRecord (W : Type 0) (caller_of : W → ℕ) (holds : W → List Entry → Type 0) (change : Change) : Type 0 where
  pub config : HubConfig
  pub whose : W
  pub past : List Entry
  pub held : holds whose past
  pub is_legal : legal config (entry (caller_of whose) change ∷ past) ≡ true
  pub is_free : places change ≡ 0

-- the core stands for a history that is held
pub record StandsHeld (core : HubCore) (holds : List Entry → Type 0) (H : List Entry) : Type 0 where
  pub stands : Stands core H
  pub held : holds H

-- the same up to a moment
pub record StandsAt (core : HubCore) (holds : List Entry → Type 0) (moment : ℕ) (H : List Entry) : Type 0 where
  pub stands : Stands core H
  pub held : holds H
  pub in_time : clock H ≤ moment

-- there is some history of which the fact holds
pub record ForSome (W : Type 0) (fact : W → List Entry → Type 0) : Type 0 where
  pub whose : W
  pub past : List Entry
  pub so : fact whose past

-- What each call promises with its record. For whatever history the old core stands that is held, where the caller may
-- make the call: the answer serves, the new core stands for the history after it, and that is held then.
pub record RecordsCall (old : HubCore) (holds : List Entry → Type 0) (new : HubCore) (holds_then : List Entry → Type 0) (caller : ℕ) (call : Call) (at : ℕ) (reply : Option Reply) : Type 0 where
  pub same_config : new.config ≡ old.config
  pub serves : (H : List Entry) → StandsHeld old holds H → MayCall H caller call → Serves old.config H caller call at reply (later old.config H caller call at reply)
  pub stands : (H : List Entry) → StandsHeld old holds H → MayCall H caller call → StandsHeld new holds_then (later old.config H caller call at reply)

-- how many entries a journal had, and whether room was made then
pub record Start : Type 0 where
  pub entries : ℕ
  pub room : Bool

-- The journal is this history of the only caller, it has the memory that it will need, and room that was made stays until
-- an entry is written.
pub record HoldsSince (journal : List Entry) (taken capacity : ℕ) (room : Bool) (start : Start) (past : List Entry) : Type 0 where
  pub written : past ≡ history_of journal
  pub counts : taken ≡ places_of past
  pub has_places : taken + room_for room ≤ capacity
  pub longer : start.entries ≤ length journal
  pub same_room : length journal ≤ start.entries → room ≡ start.room
