-- The options of the node's program.
use Rattle.std.specs.Prelude.{◌∷◌, ◌≡◌, ℕ, List, [], codes, true}
use Rattle.clap.specs.Words.{App, Row, Rule, Text, first_of, matches_of}
use Rattle.grid_types.specs.Names.{is_node_address}
use Rattle.grid_types.specs.declared.limits.TheConstants.{MOST_SLOTS}
use Rattle.server_words.specs.Options.{IsTaken, bare, number_of, number_or, text_of, text_or, with_rules}
use Rattle.server_words.specs.declared.node.NodeWords.{NodeWords}

-- its options
abbrev pub node_rules : List Rule
node_rules =
    text_of (codes "hub")
    ∷ number_of (codes "port") 1 65_535
    ∷ text_of (codes "name")
    ∷ text_of (codes "browser")
    ∷ number_of (codes "slots") 1 MOST_SLOTS
    ∷ []

unfoldable pub node_command : App
node_command = with_rules (bare (codes "grid_node")) node_rules

-- the hub's address as the words found write it
abbrev pub hub_address : List Row → List ℕ
hub_address rows = text_or (codes "127.0.0.1:4444") (first_of (codes "hub") rows)

abbrev pub node_told : List Row → NodeWords
node_told rows = record {
  hub = hub_address rows;
  port = number_or 5_555 (first_of (codes "port") rows);
  name = text_or (codes "loop") (first_of (codes "name") rows);
  browser = text_or (codes "chrome") (first_of (codes "browser") rows);
  slots = number_or 1 (first_of (codes "slots") rows);
}

-- the command takes the words, and what they name as the hub's address is one
abbrev pub FitsNode : List Text → Type 0
FitsNode words = IsTaken node_command words
    × (is_node_address (hub_address (matches_of node_command words)) ≡ true)

-- what the words of the node's program say
abbrev pub node_said : List Text → NodeWords
node_said words = node_told (matches_of node_command words)
