-- What may stand for a key, and how it is written as a word.
use Rattle.std.specs.Prelude.{◌&&◌, ◌||◌, ◌==◌, ℕ, ℤ, pos, negsuc, Bool, true, false, not, nat_le}
use Rattle.std.specs.Prelude.{List, [], ◌∷◌, length, is_some, Option, None, Some, codes, decimal, option_and_then, option_map}
use Rattle.std.specs.Prelude.{if◌then◌else◌}
use Rattle.std.specs.List.{list_all}
use Rattle.std.specs.Str.{bytes_eq}
use Rattle.toml.specs.Data.{Data, as_bool, as_integer, as_str}
use Rattle.grid_types.specs.Names.{is_node_name_byte}
use Rattle.server_words.specs.Addresses.{bare_address, is_reachable}
use Rattle.server_words.specs.OwnCapabilities.{own_cap}
use Rattle.grid_config.specs.declared.rows.Form.{Form}
use Rattle.grid_config.specs.declared.rows.Form.TheVariants as form
use Rattle.grid_config.specs.declared.rows.Kind.{Kind}
use Rattle.grid_config.specs.declared.rows.Kind.TheVariants as kind

-- from `!` to `~`
abbrev pub is_plain : ℕ → Bool
is_plain b = nat_le 33 b && nat_le b 126

abbrev pub begins_with_dash : List ℕ → Bool
begins_with_dash [] = false
begins_with_dash (b ∷ text) = b == 45

-- 1 to 64 such bytes that begin with no `-`
abbrev pub is_name : List ℕ → Bool
is_name text =
    nat_le 1 (length text) && nat_le (length text) 64 && list_all is_plain text
    && not (begins_with_dash text)

-- a name of the bytes of a node's name
abbrev pub is_label : List ℕ → Bool
is_label text = is_name text && list_all is_node_name_byte text

-- an address as the program takes it, which begins with no `-`
abbrev pub is_address : List ℕ → Bool
is_address text = is_reachable (bare_address text) && not (begins_with_dash text)

-- NAME=VALUE, which begins with no `-`
abbrev pub is_capability : List ℕ → Bool
is_capability text = is_some (own_cap text) && not (begins_with_dash text)

-- neither a control character of ASCII nor a break of a line
abbrev pub is_printing : ℕ → Bool
is_printing b = nat_le 32 b && not (b == 127)

-- 1 to 4,095 such bytes that begin with no `-`
abbrev pub is_path : List ℕ → Bool
is_path text =
    nat_le 1 (length text) && nat_le (length text) 4_095 && list_all is_printing text
    && not (begins_with_dash text)

-- `each` or `second`
abbrev pub is_sync : List ℕ → Bool
is_sync text = bytes_eq text (codes "each") || bytes_eq text (codes "second")

-- the text is of the form
abbrev pub has_form : Form → List ℕ → Bool
has_form form.Name text = is_name text
has_form form.Label text = is_label text
has_form form.Address text = is_address text
has_form form.Capability text = is_capability text
has_form form.Path text = is_path text
has_form form.Sync text = is_sync text

abbrev pub text_of : Form → List ℕ → Option (List ℕ)
text_of f text = if has_form f text then Some text else None

abbrev pub number_within : ℕ → ℕ → ℤ → Option (List ℕ)
number_within least most (pos n) = if nat_le least n && nat_le n most then Some (decimal n) else None
number_within least most (negsuc n) = None

abbrev pub truth : Bool → List ℕ
truth true = codes "true"
truth false = codes "false"

-- how a value that may stand for the key is written as a word; None where it may not
abbrev pub word_for : Kind → Data → Option (List ℕ)
word_for (kind.Number least most) d = option_and_then (number_within least most) (as_integer d)
word_for kind.Truth d = option_map truth (as_bool d)
word_for (kind.Text f) d = option_and_then (text_of f) (as_str d)
