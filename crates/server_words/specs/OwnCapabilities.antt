-- Capabilities that the words name themselves: NAME=VALUE, where VALUE is JSON, or else a text.
use Rattle.std.specs.Prelude.{◌==◌, ℕ, Bool, List, [], ◌∷◌, length, nat_lt, is_some, Option, None, Some, option_map, if◌then◌else◌}
use Rattle.std.specs.List.{after_first, before_first, position_or_len}
use Rattle.serde_json.specs.Read.{read}
use Rattle.grid_types.specs.declared.capabilities.Cap.{Cap}
use Rattle.grid_types.specs.declared.capabilities.CapValue.{CapValue}
use Rattle.grid_types.specs.declared.capabilities.CapValue.TheVariants as value

-- a JSON text stands as it was written, any other text for itself
abbrev pub own_value : List ℕ → CapValue
own_value text = if is_some (read text) then value.Raw text else value.Text text

abbrev pub is_equals : ℕ → Bool
is_equals b = b == 61

abbrev pub has_equals : List ℕ → Bool
has_equals text = nat_lt (position_or_len is_equals text) (length text)

-- a name that is not empty
abbrev pub named_cap : List ℕ → List ℕ → Option Cap
named_cap [] text = None
named_cap (b ∷ name) text = Some (record { name = b ∷ name; value = own_value text })

-- what stands before the first `=`, and what behind it
abbrev pub own_cap : List ℕ → Option Cap
own_cap text =
    if has_equals text then named_cap (before_first is_equals text) (after_first is_equals text) else None

abbrev pub with_cap : Option Cap → Option (List Cap) → Option (List Cap)
with_cap None caps = None
with_cap (Some cap) caps = option_map (λ cs. cap ∷ cs) caps

-- those of all texts in their order, where each is one
abbrev pub own_caps : List (List ℕ) → Option (List Cap)
own_caps [] = Some []
own_caps (text ∷ texts) = with_cap (own_cap text) (own_caps texts)

abbrev pub caps_or_none : Option (List Cap) → List Cap
caps_or_none None = []
caps_or_none (Some caps) = caps
