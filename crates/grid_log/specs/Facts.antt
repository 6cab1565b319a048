-- An event with its facts, and how it is written on a line.
use Rattle.std.specs.Prelude.{ℕ, List, [], ◌∷◌, ◌++◌, Option, None, Some, codes, decimal}
use Rattle.grid_types.specs.Capabilities.{json_string}
use Rattle.grid_log.specs.declared.form.Form.{Form}
use Rattle.grid_log.specs.declared.form.Form.TheVariants as form

-- a fact under its key: a number, a word without a sign that would have to be escaped, or a name, which may be any text; a number
-- and a name may be unknown, and then nothing is written
pub data Fact : Type 0 where
  number : (key : List ℕ) → (n : ℕ) → Fact
  word : (key bytes : List ℕ) → Fact
  name : (key text : List ℕ) → Fact
  number_if : (key : List ℕ) → (n : Option ℕ) → Fact
  name_if : (key : List ℕ) → (text : Option (List ℕ)) → Fact

-- what happened: its moment, the words for it, and its facts in order
pub record Event : Type 0 where
  pub at : ℕ
  pub what : List ℕ
  pub facts : List Fact

-- the bytes with what stands before a value of this key behind them
unfoldable pub with_key : Form → List ℕ → List ℕ → List ℕ
with_key form.Text bytes key = bytes ++ codes " " ++ key ++ codes "="
with_key form.Json bytes key = bytes ++ codes ",\"" ++ key ++ codes "\":"

-- the bytes with a word behind them: in JSON it has quotes
unfoldable pub with_word : Form → List ℕ → List ℕ → List ℕ
with_word form.Text bytes content = bytes ++ content
with_word form.Json bytes content = bytes ++ codes "\"" ++ content ++ codes "\""

-- the bytes with a fact behind them
unfoldable pub with_fact : Form → List ℕ → Fact → List ℕ
with_fact f bytes (number key n) = with_key f bytes key ++ decimal n
with_fact f bytes (word key content) = with_word f (with_key f bytes key) content
with_fact f bytes (name key text) = with_key f bytes key ++ json_string text
with_fact f bytes (number_if key None) = bytes
with_fact f bytes (number_if key (Some n)) = with_key f bytes key ++ decimal n
with_fact f bytes (name_if key None) = bytes
with_fact f bytes (name_if key (Some text)) = with_key f bytes key ++ json_string text

-- the bytes with these facts behind them, in order
abbrev pub with_facts : Form → List ℕ → List Fact → List ℕ
with_facts f bytes [] = bytes
with_facts f bytes (fact ∷ facts) = with_facts f (with_fact f bytes fact) facts

-- the front of a line: the moment and what happened
unfoldable pub begun : Form → ℕ → List ℕ → List ℕ
begun form.Text at what = decimal at ++ codes " " ++ what
begun form.Json at what =
    codes "{\"at\":" ++ decimal at ++ codes ",\"event\":\"" ++ what ++ codes "\""

-- the end of a line
unfoldable pub line_end : Form → List ℕ
line_end form.Text = codes "\n"
line_end form.Json = codes "}\n"

-- the line of an event
abbrev pub line : Form → Event → List ℕ
line f event = with_facts f (begun f event.at event.what) event.facts ++ line_end f

-- the bytes with the lines of these events behind them, in order
abbrev pub with_lines : Form → List ℕ → List Event → List ℕ
with_lines f bytes [] = bytes
with_lines f bytes (event ∷ events) = with_lines f (bytes ++ line f event) events

-- the lines of events, in order
abbrev pub lines : Form → List Event → List ℕ
lines f events = with_lines f [] events

-- the first line of a log, which says what its moments are
abbrev pub first_line : Form → List ℕ
first_line form.Text = codes "# moments are milliseconds since the hub's clock began\n"
first_line form.Json =
    codes "{\"moments\":\"milliseconds since the hub's clock began\"}\n"
