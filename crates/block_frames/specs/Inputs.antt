-- What was read of an input.
use Rattle.std.specs.Prelude.{◌≡◌, ◌≤◌, ◌<◌, ◌+◌, ℕ, List, ◌++◌, length}
use Rattle.grid_outside.specs.Counts.{Rose}
use Rattle.grid_outside.specs.Told.{Gains, SourceView}
use Rattle.block_frames.specs.declared.parts.Part.{Part}
use Rattle.block_frames.specs.declared.parts.Part.TheVariants as part

-- it gave some bytes
pub record ReadsSome (old new : SourceView) : Type 0 where
  pub bytes : List ℕ
  pub given : Gains old.given new.given bytes

-- a piece was read behind the bytes before: none at the end of the input
pub record ReadsPiece (count room : ℕ) (before after : List ℕ) (old new : SourceView) : Type 0 where
  pub piece : List ℕ
  pub bytes_are : after ≡ before ++ piece
  pub size : length piece ≡ count
  pub within : count ≤ room
  pub given : Gains old.given new.given piece
  pub ended : count ≡ 0 → Rose old.ends new.ends
  pub ends_later : old.ends ≤ new.ends

-- these bytes were read, and so many fewer are left
pub record Reads (bytes : List ℕ) (left fewer : ℕ) (old new : SourceView) : Type 0 where
  pub given : Gains old.given new.given bytes
  pub count : left ≡ length bytes + fewer
  pub ends_later : old.ends ≤ new.ends

-- as many bytes as were wanted, or fewer: the input ended, or none is left
pub record ReadsPart (stop : Part) (wanted left fewer : ℕ) (bytes : List ℕ) (old new : SourceView) : Type 0 where
  pub reads : Reads bytes left fewer old new
  pub whole : stop ≡ part.Whole → length bytes ≡ wanted
  pub short : stop ≡ part.Ended → length bytes < wanted
  pub ended : stop ≡ part.Ended → Rose old.ends new.ends
  pub some : stop ≡ part.Ended → 0 < fewer
  pub limited : stop ≡ part.AtLimit → length bytes < wanted
  pub none : stop ≡ part.AtLimit → fewer ≡ 0

-- so far
pub record ReadsOn (wanted left fewer : ℕ) (bytes : List ℕ) (old new : SourceView) : Type 0 where
  pub reads : Reads bytes left fewer old new
  pub within : length bytes ≤ wanted
  pub faults_later : old.faults ≤ new.faults
