-- One block more.
use Rattle.std.specs.Prelude.{◌≡◌, ◌⊎◌, ◌≤◌, ◌<◌, ◌^◌, ℕ, List, [], length, Option, Result, Ok, Err}
use Rattle.grid_outside.specs.Counts.{Rose}
use Rattle.grid_outside.specs.Told.{Gains, TookFront}
use Rattle.block_frames.specs.Blocks.{IsCut}
use Rattle.block_frames.specs.Frames.{frame, framed}
use Rattle.block_frames.specs.Inputs.{Reads, ReadsSome}
use Rattle.grid_play.specs.Talks.{Standing}
use Rattle.team_words.specs.declared.team_play.TeamPlay.{TeamPlay}
use Rattle.grid_teams_top.specs.declared.playing.PlayingTeam.{PlayingTeam}
use Rattle.grid_teams_top.specs.declared.playing.TheConstants.{MOST_BLOCK_BYTES}
use Rattle.grid_teams_top.specs.Blocks.{AllPlay, ServesBlock, standings}
use Rattle.grid_teams_run.specs.declared.limits.TheConstants.{MOST_INPUT_BYTES}
use Rattle.grid_teams_run.specs.declared.run_end.RunEnd.{RunEnd}
use Rattle.grid_teams_run.specs.declared.run_end.RunEnd.TheVariants as ends
use Rattle.grid_teams_run.specs.Running.{HasServed, IsLongBlock, RunView}

-- what an output tells: the bytes that it took, where it tells them, and how often a write failed
pub record OutputView : Type 0 where
  pub taken : Option (List ℕ)
  pub faults : ℕ

abbrev pub output_of : Option (List ℕ) → ℕ → OutputView
output_of taken faults = record { taken = taken; faults = faults }

-- the teams served the block, and what goes out for it
pub record ServesTo (said : List TeamPlay) (old : List PlayingTeam) (bytes out : List ℕ) (new : List PlayingTeam) : Type 0 where
  pub serves : ServesBlock said (standings old) bytes out (standings new)
  pub play : AllPlay said new

-- What goes out was written behind its length; or it is too long, or a write failed behind a front of it.
abbrev pub WritesSo : List ℕ → Result (Unit {0}) RunEnd → OutputView → OutputView → Type 0
WritesSo out (Ok u) old new = (length out < 2 ^ 32) × Gains old.taken new.taken (frame out)
WritesSo out (Err ends.TooLong) old new = (2 ^ 32 ≤ length out) × (new ≡ old)
WritesSo out (Err ends.Write) old new = TookFront old.taken new.taken (frame out) × Rose old.faults new.faults
WritesSo out (Err ends.Memory) old new = ⊥
WritesSo out (Err ends.Between) old new = ⊥
WritesSo out (Err ends.Read) old new = ⊥
WritesSo out (Err ends.AtLimit) old new = ⊥
WritesSo out (Err ends.Inside) old new = ⊥

-- A block was served and its answer written; or that is too long, or a write failed behind a front of it, or there was no memory.
abbrev pub AnswersSo : List TeamPlay → List PlayingTeam → List ℕ → Result (Unit {0}) RunEnd → List PlayingTeam → OutputView → OutputView → Type 0
AnswersSo said teams bytes (Ok u) others old new =
    (out : List ℕ) × ServesTo said teams bytes out others × (length out < 2 ^ 32) × Gains old.taken new.taken (frame out)
AnswersSo said teams bytes (Err ends.TooLong) others old new =
    (out : List ℕ) × ServesTo said teams bytes out others × (2 ^ 32 ≤ length out) × (new ≡ old)
AnswersSo said teams bytes (Err ends.Write) others old new =
    (out : List ℕ) × ServesTo said teams bytes out others × TookFront old.taken new.taken (frame out) × Rose old.faults new.faults
AnswersSo said teams bytes (Err ends.Memory) others old new = new ≡ old
AnswersSo said teams bytes (Err ends.Between) others old new = ⊥
AnswersSo said teams bytes (Err ends.Read) others old new = ⊥
AnswersSo said teams bytes (Err ends.AtLimit) others old new = ⊥
AnswersSo said teams bytes (Err ends.Inside) others old new = ⊥

-- a block was read and answered so
pub record NextAnswered (said : List TeamPlay) (teams : List PlayingTeam) (left fewer : ℕ) (result : Result (Unit {0}) RunEnd)
    (others : List PlayingTeam) (old new : RunView) : Type 0 where
  pub bytes : List ℕ
  pub short : length bytes ≤ MOST_BLOCK_BYTES
  pub reads : Reads (frame bytes) left fewer old.input new.input
  pub answers : AnswersSo said teams bytes result others (output_of old.taken old.faults) (output_of new.taken new.faults)

-- in place of a block this was read, and nothing written
abbrev pub NextMissing : RunEnd → (left fewer : ℕ) → RunView → RunView → Type 0
NextMissing ends.Between left fewer old new =
    Reads [] left fewer old.input new.input × Rose old.input.ends new.input.ends × (0 < fewer)
NextMissing ends.Read left fewer old new = ReadsSome old.input new.input × Rose old.input.faults new.input.faults
NextMissing ends.Write left fewer old new = ⊥
NextMissing ends.Memory left fewer old new = ReadsSome old.input new.input
NextMissing ends.AtLimit left fewer old new =
    (rest : List ℕ) × Reads rest left fewer old.input new.input × IsCut MOST_BLOCK_BYTES rest × (fewer ≡ 0)
NextMissing ends.Inside left fewer old new =
    (rest : List ℕ) × Reads rest left fewer old.input new.input × IsCut MOST_BLOCK_BYTES rest
    × Rose old.input.ends new.input.ends × (0 < fewer)
NextMissing ends.TooLong left fewer old new =
    (rest : List ℕ) × Reads rest left fewer old.input new.input × IsLongBlock rest

-- the block that stands next was served and answered, or the run ends
abbrev pub NextSo : List TeamPlay → List PlayingTeam → (left fewer : ℕ) → Result (Unit {0}) RunEnd → List PlayingTeam → RunView → RunView → Type 0
NextSo said teams left fewer (Ok u) others old new = NextAnswered said teams left fewer (Ok u) others old new
NextSo said teams left fewer (Err end) others old new =
    NextAnswered said teams left fewer (Err end) others old new ⊎ (NextMissing end left fewer old new × (new.taken ≡ old.taken))

-- blocks were served and answered so far
pub record SoFar (said : List TeamPlay) (first : ℕ → Standing) (left : ℕ) (teams : List PlayingTeam) (old new : RunView) : Type 0 where
  pub blocks : List (List ℕ)
  pub outs : List (List ℕ)
  pub served : HasServed said first blocks outs (standings teams)
  pub play : AllPlay said teams
  pub reads : Reads (framed blocks) MOST_INPUT_BYTES left old.input new.input
  pub taken : Gains old.taken new.taken (framed outs)
