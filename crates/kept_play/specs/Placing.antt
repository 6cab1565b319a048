-- Nodes of a play that register where no registered node has their name.
use Rattle.std.specs.Prelude.{◌≡◌, ℕ, ◌+◌, Bool, true, false, List, [], ◌∷◌, ◌++◌, Option, None, Some, IfSome}
use Rattle.grid_types.specs.declared.capabilities.Registration.{Registration}
use Rattle.grid_types.specs.declared.config.HubConfig.{HubConfig}
use Rattle.grid_types.specs.declared.entry.Entry.{Entry}
use Rattle.grid_types.specs.Calls.{Call, Reply}
use Rattle.hub_core.specs.Answers.{Answers}
use Rattle.hub_core.specs.declared.answers.Registering.{Registering}
use Rattle.hub_core.specs.declared.answers.Registering.TheVariants as registering
use Rattle.play_words.specs.declared.play.PlayNode.{PlayNode}
use Rattle.grid_play.specs.Crew.{registration_of}
use Rattle.kept_play.specs.declared.places.Place.{Place}
use Rattle.kept_play.specs.declared.places.Place.TheVariants as place

-- the number that the answer to a registration tells: the new node's, or that of the registered node with its name
abbrev pub number_told : Reply → List ℕ
number_told (Reply.registered n) = n ∷ []
number_told (Reply.name_taken n) = n ∷ []
number_told reply = []

-- After the history H the nodes, with the numbers from `i` on in their names, registered one behind the other at the moment 0, and
-- then the history is `later`. These are the numbers of the registered nodes with their names, in this order.
pub data Placed (c : HubConfig) : ℕ → List PlayNode → List Entry → List ℕ → List Entry → Type 0 where
  none_left : (i : ℕ) (H : List Entry) → Placed c i [] H [] H
  one_placed : (i : ℕ) (node : PlayNode) (nodes : List PlayNode) (H mid later : List Entry) (reply : Reply) (numbers : List ℕ) →
      Answers c H 0 (Call.register (registration_of i node)) 0 (Some reply) mid → Placed c (i + 1) nodes mid numbers later →
      Placed c i (node ∷ nodes) H (number_told reply ++ numbers) later

-- where a node has come to by the answer to its registration
abbrev pub place_by : Registering → Place
place_by (registering.Registered n) = place.Number n
place_by (registering.NameTaken n) = place.Number n
place_by (registering.NodesFull listed) = place.Nowhere
place_by registering.NumbersSpent = place.Nowhere
place_by (registering.Memory r) = place.Lacks

-- the numbers of a place; None is out of memory
abbrev pub numbers_of : Place → Option (List ℕ)
numbers_of (place.Number n) = Some (n ∷ [])
numbers_of place.Nowhere = Some []
numbers_of place.Lacks = None

-- the hub answered the registration by the place
pub record AnsweredBy (c : HubConfig) (H : List Entry) (node : Registration) (numbers : List ℕ) (later : List Entry) : Type 0 where
  pub reply : Reply
  pub answers : Answers c H 0 (Call.register node) 0 (Some reply) later
  pub numbers_are : numbers ≡ number_told reply

abbrev pub CameTo : HubConfig → List Entry → Registration → Place → List Entry → Type 0
CameTo c H node found later = IfSome (numbers_of found) (λ numbers. AnsweredBy c H node numbers later)

-- the numbers of the place stand behind the others
pub record Noted (old : List ℕ) (found : Place) (new : List ℕ) : Type 0 where
  pub numbers : List ℕ
  pub told : numbers_of found ≡ Some numbers
  pub behind : new ≡ old ++ numbers

abbrev pub NotesPlace : Bool → List ℕ → Place → List ℕ → Type 0
NotesPlace true old found new = Noted old found new
NotesPlace false old found new = Unit {0}

-- all nodes were placed, and their numbers stand behind the others
pub record PlacedBehind (c : HubConfig) (i : ℕ) (nodes : List PlayNode) (H : List Entry) (old new : List ℕ) (later : List Entry) : Type 0 where
  pub numbers : List ℕ
  pub placed : Placed c i nodes H numbers later
  pub behind : new ≡ old ++ numbers

-- or memory was wanted
abbrev pub PlacedAll : Bool → HubConfig → ℕ → List PlayNode → List Entry → List ℕ → List ℕ → List Entry → Type 0
PlacedAll true c i nodes H old new later = PlacedBehind c i nodes H old new later
PlacedAll false c i nodes H old new later = Unit {0}
