-- A text is read in one way, or refused in one way.
use Rattle.std.specs.Prelude.{◌≡◌, ℕ, List, IsUtf8}
use Rattle.json_spans.specs.Grammar.{Tree, IsJson}
use Rattle.json_spans.specs.Parts.{IsText}
use Rattle.json_spans.specs.Cut.{Refuses}
use Rattle.json_spans.specs.declared.fault.JsonFault.{JsonFault}

-- two trees that one text spells, of any depth, are one, and so is the white space on each side of them
abbrev pub ReadOneWay : List ℕ → Type 0
ReadOneWay bytes =
    (before space : List ℕ) (v w : Tree) (after left : List ℕ) → IsJson bytes before v after → IsJson bytes space w left
    → (before ≡ space) × (v ≡ w) × (after ≡ left)

-- two faults of one text are one, their places included
abbrev pub RefusedOneWay : List ℕ → Type 0
RefusedOneWay bytes = (e f : JsonFault) → Refuses bytes e → Refuses bytes f → e ≡ f

-- what has a fault is no UTF-8 text of JSON within 127 levels
abbrev pub NotBoth : List ℕ → Type 0
NotBoth bytes = (e : JsonFault) (before : List ℕ) (v : Tree) (after : List ℕ) → Refuses bytes e → IsUtf8 bytes → IsText bytes before v after → ⊥
