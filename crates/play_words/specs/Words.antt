-- What the words of a play say.
use Rattle.std.specs.Prelude.{◌≡◌, ℕ, ◌≤◌, List, [], ◌∷◌, ◌++◌, length, Option, codes, decimal}
use Rattle.grid_types.specs.declared.config.HubConfig.{HubConfig}
use Rattle.grid_types.specs.declared.limits.TheConstants.{MOST_SLOTS}
use Rattle.grid_types.specs.Config.{default_config}
use Rattle.play_words.specs.declared.play.PlayNode.{PlayNode}
use Rattle.play_words.specs.Node.{IsNode}
use Rattle.play_words.specs.Options.{refusal_name, timeout_name, option_words, SaysRefusal, SaysTimeout}

-- two words say a node: its description, and its slots from 1 to 64
pub record SaysNode (word slots : List ℕ) (node : PlayNode) : Type 0 where
  pub word_is : IsNode word node.browser node.version node.refuses
  pub slots_are : slots ≡ decimal node.slots
  pub least : 1 ≤ node.slots
  pub most : node.slots ≤ MOST_SLOTS

-- and so on
abbrev pub SaysNodes : List (List ℕ) → List PlayNode → Type 0
SaysNodes [] [] = Unit {0}
SaysNodes [] (node ∷ nodes) = ⊥
SaysNodes (word ∷ []) nodes = ⊥
SaysNodes (word ∷ slots ∷ words) [] = ⊥
SaysNodes (word ∷ slots ∷ words) (node ∷ nodes) = SaysNode word slots node × SaysNodes words nodes

-- 1 to 16 nodes
pub record SaysCrew (words : List (List ℕ)) (nodes : List PlayNode) : Type 0 where
  pub nodes_are : SaysNodes words nodes
  pub some : 1 ≤ length nodes
  pub few : length nodes ≤ 16

-- `play`, the nodes, and then the options in this order; all else of the hub is as usual
pub record Plays (words : List (List ℕ)) (config : HubConfig) (nodes : List PlayNode) : Type 0 where
  pub node_words : List (List ℕ)
  pub refusal : Option (List ℕ)
  pub timeout : Option (List ℕ)
  pub words_are : words ≡ codes "play" ∷ ((node_words ++ option_words refusal_name refusal) ++ option_words timeout_name timeout)
  pub crew : SaysCrew node_words nodes
  pub refusal_is : SaysRefusal refusal config.reject_unsupported
  pub timeout_is : SaysTimeout timeout config.timeout_ms
  pub others : config ≡ record default_config { timeout_ms = config.timeout_ms; reject_unsupported = config.reject_unsupported }

-- a name and a number
abbrev pub IsNumbered : List (List ℕ) → List ℕ → ℕ → Type 0
IsNumbered words name number = words ≡ name ∷ decimal number ∷ []

-- `simulate` and a number
abbrev pub IsSimulate : List (List ℕ) → ℕ → Type 0
IsSimulate words number = IsNumbered words (codes "simulate") number

-- the two plays that some words say are one
pub record SamePlay (c d : HubConfig) (nodes others : List PlayNode) : Type 0 where
  pub same_config : c ≡ d
  pub same_nodes : nodes ≡ others

abbrev pub OnePlay : Type 0
OnePlay =
    (words : List (List ℕ)) (c d : HubConfig) (nodes others : List PlayNode)
    → Plays words c nodes → Plays words d others → SamePlay c d nodes others
