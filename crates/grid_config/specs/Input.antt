-- What was read of an input.
use Rattle.std.specs.Prelude.{◌≡◌, ◌<◌, ◌≤◌, ◌+◌, ℕ, Bool, true, false, List, ◌++◌, length}
use Rattle.grid_config.specs.declared.reading.TheConstants.{MOST_TEXT_BYTES}
use Rattle.grid_outside.specs.Counts.{Rose}
use Rattle.grid_outside.specs.Told.{Gains, SourceView}

-- These bytes were read, at most one more than a configuration has; no more than it has only where
-- the end of the input was answered.
pub record HasRead (bytes : List ℕ) (old new : SourceView) : Type 0 where
  pub given : Gains old.given new.given bytes
  pub within : length bytes ≤ MOST_TEXT_BYTES + 1
  pub ended : length bytes ≤ MOST_TEXT_BYTES → Rose old.ends new.ends

-- a piece was read behind the text: some bytes, or none at the end of the input
pub record ReadsPiece (more : Bool) (before after : List ℕ) (old new : SourceView) : Type 0 where
  pub piece : List ℕ
  pub text : after ≡ before ++ piece
  pub given : Gains old.given new.given piece
  pub within : length before + length piece ≤ MOST_TEXT_BYTES + 1
  pub some : more ≡ true → 0 < length piece
  pub ended : more ≡ false → Rose old.ends new.ends
  pub ends_later : old.ends ≤ new.ends

-- the text so far
pub record HasReadSome (bytes : List ℕ) (old new : SourceView) : Type 0 where
  pub given : Gains old.given new.given bytes
  pub within : length bytes ≤ MOST_TEXT_BYTES + 1
  pub ends_later : old.ends ≤ new.ends
  pub faults_later : old.faults ≤ new.faults
