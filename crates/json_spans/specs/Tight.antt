-- A value without white space, by the grammar.
use Rattle.std.specs.Prelude.{◌≡◌, ℕ, List, []}
use Rattle.json_spans.specs.Grammar.{Tree, word, number, text, empty_list, list, empty_object, object, Items, one, more, Members, one_member, more_members, spelling}
use Rattle.json_spans.specs.Parts.{Part, Spells}

abbrev mutual
  pub tight : Tree → Tree
  tight (word s) = word s
  tight (number s) = number s
  tight (text cs) = text cs
  tight (empty_list w) = empty_list []
  tight (list is) = list (tight_items is)
  tight (empty_object w) = empty_object []
  tight (object ms) = object (tight_members ms)

  pub tight_items : Items → Items
  tight_items (one a v b) = one [] (tight v) []
  tight_items (more a v b is) = more [] (tight v) [] (tight_items is)

  pub tight_members : Members → Members
  tight_members (one_member a n b c v d) = one_member [] n [] [] (tight v) []
  tight_members (more_members a n b c v d ms) = more_members [] n [] [] (tight v) [] (tight_members ms)

-- t spells the part's value without white space
abbrev pub IsTight : Part → List ℕ → Type 0
IsTight p t = (v : Tree) → Spells p v → t ≡ spelling (tight v)
