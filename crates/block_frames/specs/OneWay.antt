-- That bytes are blocks in one way.
use Rattle.std.specs.Prelude.{◌≡◌, ◌⊎◌, ◌≤◌, ◌<◌, ◌^◌, ℕ, List, [], ◌∷◌, ◌++◌, length}
use Rattle.block_frames.specs.Blocks.{IsCut}
use Rattle.block_frames.specs.Frames.{framed, length_bytes}

-- the length of a block that is more than the most
pub record IsLong (most : ℕ) (rest : List ℕ) : Type 0 where
  pub size : ℕ
  pub long : most < size
  pub told : size < 2 ^ 32
  pub rest_is : rest ≡ length_bytes size

-- what may stand behind the last whole block: nothing, a part of a block, or a length that is more than the most
abbrev pub IsRest : ℕ → List ℕ → Type 0
IsRest most rest = (rest ≡ []) ⊎ (IsCut most rest ⊎ IsLong most rest)

abbrev pub AllWithin : ℕ → List (List ℕ) → Type 0
AllWithin most [] = Unit {0}
AllWithin most (bytes ∷ blocks) = (length bytes ≤ most) × AllWithin most blocks

-- two readings of some bytes are one
pub record SameReading (blocks others : List (List ℕ)) (rest more : List ℕ) : Type 0 where
  pub same_blocks : blocks ≡ others
  pub same_rest : rest ≡ more

-- Bytes are blocks and what stands behind them in one way at most.
abbrev pub OneWay : Type 0
OneWay =
    (most : ℕ) (blocks others : List (List ℕ)) (rest more : List ℕ) → most < 2 ^ 32 →
    AllWithin most blocks → AllWithin most others → IsRest most rest → IsRest most more →
    framed blocks ++ rest ≡ framed others ++ more → SameReading blocks others rest more
