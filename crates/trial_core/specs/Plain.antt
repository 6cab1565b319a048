-- Cores of which few nodes and equal requests are known, for worked cases of what a dispatch compares.
use Rattle.std.specs.Prelude.{◌≡◌, ℕ, ◌+◌, ◌≤◌, true, List, [], length}
use Rattle.grid_types.specs.declared.entry.Entry.{Entry}
use Rattle.grid_types.specs.declared.capabilities.Cap.{Cap}
use Rattle.grid_types.specs.History.{nodes as nodes_of}
use Rattle.grid_types.specs.Requests.{place, is_waiting, choices_of, waiting_requests}
use Rattle.request_laws.specs.Kinds.{barred_nodes}
use Rattle.slot_select.specs.Rows.{groups_of}
use Rattle.hub_core.specs.declared.hub.HubCore.{HubCore}
use Rattle.hub_core.specs.CoreStands.{Stands}

-- at most so many nodes registered, each with one group at most; what waits is for these choices, and no start failed
pub record IsPlain (most : ℕ) (choices : List (List Cap)) (H : List Entry) : Type 0 where
  pub few : length (nodes_of H) ≤ most
  pub small : (n : ℕ) → length (groups_of H n) ≤ 1
  pub same : (r : ℕ) → is_waiting (place H r) ≡ true → choices_of H r ≡ choices
  pub unbarred : (r : ℕ) → barred_nodes H r ≡ []

-- the core stands for such a history
abbrev pub IsPlainCore : ℕ → List (List Cap) → HubCore → Type 0
IsPlainCore most choices core = (H : List Entry) × (Stands core H × IsPlain most choices H)

-- the core stands for some history
abbrev pub StandsForSome : HubCore → Type 0
StandsForSome core = (H : List Entry) × Stands core H

-- the core stands for a history in which no request waits
abbrev pub NoneWaits : HubCore → Type 0
NoneWaits core = (H : List Entry) × (Stands core H × (waiting_requests H ≡ []))

-- what stands for a plain history stands for one after it too, of at most so many nodes more
pub record KeepsPlain (more : ℕ) (choices : List (List Cap)) (old new : HubCore) : Type 0 where
  pub same_config : new.config ≡ old.config
  pub plain : (most : ℕ) → IsPlainCore most choices old → IsPlainCore (most + more) choices new
