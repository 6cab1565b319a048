-- What a keeper tells of its disk: its rows, and each image that a crash might have left.
use Rattle.std.specs.Prelude.{◌≡◌, ◌⊎◌, ℕ, slice_get, ◌-◌, List, [], ◌∷◌, ◌++◌, length, take, Option, None, Some, IfSome}

-- The rows, the oldest first: while no call runs a crash leaves just these. And what a crash might have left at each moment
-- before, the newest first.
pub record Disk : Type 0 where
  pub rows : List (List ℕ)
  pub past : List (List (List ℕ))

-- how many moments have been
abbrev pub time : Disk → ℕ
time d = length d.past

-- what a crash since so many moments might have left
abbrev pub since : ℕ → Disk → List (List (List ℕ))
since start d = d.rows ∷ take (length d.past - start) d.past

-- of each image
abbrev pub Each : (List (List ℕ) → Type 0) → List (List (List ℕ)) → Type 0
Each P [] = Unit {0}
Each P (image ∷ images) = P image × Each P images

-- the rows, or the rows with one more
abbrev pub IsEither : List (List ℕ) → List ℕ → List (List ℕ) → Type 0
IsEither rows row image = (image ≡ rows) ⊎ (image ≡ rows ++ row ∷ [])

-- moments have been at which a crash left the rows or the rows with the new one, the old rows among them
pub record Moved (row : List ℕ) (old new : Disk) : Type 0 where
  pub between : List (List (List ℕ))
  pub goes_on : new.past ≡ between ++ (old.rows ∷ old.past)
  pub each : Each (IsEither old.rows row) between
  pub leaves : IsEither old.rows row new.rows

-- a row was to be kept: nothing has moved, or the disk went on by it
abbrev pub Keeps : List ℕ → Disk → Disk → Type 0
Keeps row old new = (new ≡ old) ⊎ Moved row old new

-- the same, where it is told
abbrev pub KeepsTold : List ℕ → Option Disk → Option Disk → Type 0
KeepsTold row None new = new ≡ None
KeepsTold row (Some old) new = (d : Disk) × (new ≡ Some d) × Keeps row old d

-- the row stands behind all others
abbrev pub HasKept : List ℕ → Option Disk → Option Disk → Type 0
HasKept row old new = IfSome old (λ before. IfSome new (λ after. after.rows ≡ before.rows ++ row ∷ []))

-- the row at a place, if there is one
abbrev pub row_at : List (List ℕ) → ℕ → Option (List ℕ)
row_at rows index = slice_get rows index
