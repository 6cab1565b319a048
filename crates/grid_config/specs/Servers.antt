-- What the status of a hub's or a node's program stands for.
use Rattle.std.specs.Prelude.{◌≡◌, ◌≤◌, ◌⊎◌, ℕ, List, [], ◌∷◌, Some, codes, IfSome, IsSome}
use Rattle.grid_config.specs.declared.rows.Mode.{Mode}
use Rattle.grid_config.specs.declared.rows.Mode.TheVariants as mode
use Rattle.grid_outside.specs.Counts.{Rose}
use Rattle.grid_outside.specs.Told.{DoorView}
use Rattle.hub_server.specs.Statuses.{MayEnd}
use Rattle.hub_server.specs.declared.begins.Unbegun.{Unbegun}
use Rattle.server_words.specs.Hosts.{IsHostText, TellsHost, host_said}
use Rattle.server_words.specs.HubOptions.{hub_said}
use Rattle.server_words.specs.Journals.{TellsJournal}
use Rattle.server_words.specs.NodeOptions.{FitsNode, node_said}

-- the one word that names the program
abbrev pub IsNamed : List (List ℕ) → Mode → Type 0
IsNamed words mode.Hub = words ≡ codes "hub" ∷ []
IsNamed words mode.Node = words ≡ codes "node" ∷ []

-- the words name a program
abbrev pub NameOne : List (List ℕ) → Type 0
NameOne words = (m : Mode) × IsNamed words m

-- the program takes these words
abbrev pub Takes : Mode → List (List ℕ) → Type 0
Takes mode.Hub words = TellsHost words × TellsJournal words
Takes mode.Node words = FitsNode words

-- the port that the words name, or the program's own where they name none
abbrev pub port_said : Mode → List (List ℕ) → ℕ
port_said mode.Hub words = (hub_said words).port
port_said mode.Node words = (node_said words).port

-- the door was set to listen at the address that the words write
abbrev pub IsSetToHost : List (List ℕ) → DoorView → Type 0
IsSetToHost words new = IfSome new.host (IsHostText (host_said words)) × IsSome new.host

-- The hub's door is set to the address of its words, but where the status is 2 or 5: then it may
-- stay as it was. A node has no word for an address, and its contract says nothing of one.
abbrev pub MaySetHost : Mode → List (List ℕ) → ℕ → DoorView → DoorView → Type 0
MaySetHost mode.Hub words status old new =
    (((status ≡ 2) ⊎ (status ≡ 5)) × (new.host ≡ old.host)) ⊎ IsSetToHost words new
MaySetHost mode.Node words status old new = Unit {0}

-- how the program may end for these words, by its own contract: its status, and what its door told
-- before and after; where a hub has not begun, that is for one of these reasons
pub record MayServe (may : Unbegun → Type 0) (m : Mode) (words : List (List ℕ)) (status : ℕ) (old new : DoorView)
    : Type 0 where
  pub closed : status ≡ 0 → Rose old.ends new.ends
  pub listens : status ≡ 0 → new.bound ≡ Some (port_said m words)
  pub misfit : status ≡ 2 → ¬ (Takes m words)
  pub refuses : ¬ (Takes m words) → (status ≡ 2) ⊎ (status ≡ 5)
  pub failed : status ≡ 3 → Rose old.faults new.faults
  pub ends_later : old.ends ≤ new.ends
  pub faults_later : old.faults ≤ new.faults
  pub bound : (new.bound ≡ old.bound) ⊎ (new.bound ≡ Some (port_said m words))
  pub host : MaySetHost m words status old new
  pub statuses : (status ≡ 2) ⊎ MayEnd may status
