-- Patterns of paths, and what a path has at each of a pattern's places.
use Rattle.std.specs.Prelude.{ℕ, ◌==◌, cond, List, [], ◌∷◌, Option, Some, None, option_and_then}

-- a text that stands there, one part of a path, or all that is left of it
pub data Piece : Type 0 where
  text : List ℕ → Piece
  part : Piece
  rest : Piece

-- what follows a text in a path that begins with it
abbrev pub behind : List ℕ → List ℕ → Option (List ℕ)
behind [] path = Some path
behind (w ∷ ws) [] = None
behind (w ∷ ws) (b ∷ path) = cond (b == w) (behind ws path) None

-- a text up to the first byte c
abbrev pub up_to : ℕ → List ℕ → List ℕ
up_to c [] = []
up_to c (b ∷ bs) = cond (b == c) [] (b ∷ up_to c bs)

-- a text from the first byte c on
abbrev pub from_first : ℕ → List ℕ → List ℕ
from_first c [] = []
from_first c (b ∷ bs) = cond (b == c) (b ∷ bs) (from_first c bs)

-- the path up to its first slash
abbrev pub first_part : List ℕ → List ℕ
first_part path = up_to 47 path

-- what is there, unless it is empty
abbrev pub unless_empty : {X : Type 0} → List ℕ → Option X → Option X
unless_empty [] found = None
unless_empty (b ∷ bs) found = found

-- the parts of a path that fits a pattern, in order, each of them not empty
abbrev pub parts_by : List Piece → List ℕ → Option (List (List ℕ))
parts_by [] [] = Some []
parts_by [] (b ∷ path) = None
parts_by (text w ∷ more) path = option_and_then (parts_by more) (behind w path)
parts_by (part ∷ more) path =
    unless_empty (first_part path) (option_and_then (λ parts. Some (first_part path ∷ parts)) (parts_by more (from_first 47 path)))
parts_by (rest ∷ more) path = unless_empty path (Some (path ∷ []))
