-- The words that a document says.
use Rattle.std.specs.Prelude.{ℕ, List, [], ◌∷◌, ◌++◌, Option, None, Some, option_and_then}
use Rattle.toml.specs.Data.{Data, Members, get, get_member}
use Rattle.grid_config.specs.Rows.{Row}
use Rattle.grid_config.specs.Values.{word_for}

-- what stands for a key of a section
abbrev pub value_at : Members → List ℕ → List ℕ → Option Data
value_at document section key = option_and_then (get key) (get_member section document)

abbrev pub two_words : List ℕ → Option (List ℕ) → List (List ℕ)
two_words option None = []
two_words option (Some text) = option ∷ text ∷ []

-- the option of a row, and the value behind it, where its key is there
abbrev pub words_of : Row → Option Data → List (List ℕ)
words_of r None = []
words_of r (Some d) = two_words r.option (word_for r.takes d)

-- those of all rows, in the table's order
abbrev pub words_in : List Row → Members → List (List ℕ)
words_in [] document = []
words_in (r ∷ rows) document = words_of r (value_at document r.section r.key) ++ words_in rows document
