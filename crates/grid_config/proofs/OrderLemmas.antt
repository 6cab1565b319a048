-- The entries of a map stand in the order of their keys' bytes.
use Rattle.std.proofs.Common.{◌≡◌, Bool, true, ◌&&◌, List, [], ◌∷◌, refl, ap₂}
use Rattle.std.specs.List.Sorted.{IsStrictlySortedBy}
use Rattle.std.specs.Map.{keys_of}
use Rattle.std.specs.String.{string_cmp}
use Rattle.toml.specs.View.{members_view}
use Rattle.toml.proofs.Views.{Entry, is_before-sorted}
use Rattle.grid_config.specs.Configured.{ascend}

pub entries_ascend : (es : List Entry) → IsStrictlySortedBy string_cmp (keys_of es) → ascend (members_view es) ≡ true
unfolding IsStrictlySortedBy
entries_ascend [] h = refl
entries_ascend (e ∷ es) h = ap₂ (λ (a b : Bool). a && b) (is_before-sorted e.0 es h.0) (entries_ascend es h.1)
