-- Blocks of an input that were served, and what each end of a run means.
use Rattle.std.specs.Prelude.{◌≡◌, ◌⊎◌, ◌≤◌, ◌<◌, ◌+◌, ◌^◌, ℕ, List, [], ◌∷◌, ◌++◌, length, Option}
use Rattle.grid_outside.specs.Counts.{Rose}
use Rattle.grid_outside.specs.Told.{Gains, SourceView}
use Rattle.block_frames.specs.Blocks.{IsCut}
use Rattle.block_frames.specs.Frames.{frame, framed, length_bytes}
use Rattle.grid_play.specs.Talks.{Standing}
use Rattle.team_words.specs.declared.team_play.TeamPlay.{TeamPlay}
use Rattle.team_words.specs.Words.{SaysTeams}
use Rattle.grid_teams_top.specs.declared.playing.TheConstants.{MOST_BLOCK_BYTES}
use Rattle.grid_teams_top.specs.Blocks.{AllShort, ServesBlock, ServesBlocks}
use Rattle.grid_teams_top.specs.Play.{first_standings}
use Rattle.grid_teams_run.specs.declared.limits.TheConstants.{MOST_INPUT_BYTES}
use Rattle.grid_teams_run.specs.declared.run_end.RunEnd.{RunEnd}
use Rattle.grid_teams_run.specs.declared.run_end.RunEnd.TheVariants as ends
use Rattle.grid_teams_run.specs.Statuses.{status_of}

-- ---- what is told

-- what a run's input and output tell
pub record RunView : Type 0 where
  pub input : SourceView
  pub taken : Option (List ℕ)
  pub faults : ℕ

abbrev pub run_of : SourceView → Option (List ℕ) → ℕ → RunView
run_of input taken faults = record { input = input; taken = taken; faults = faults }

-- ---- blocks

abbrev pub AllSized : List (List ℕ) → Type 0
AllSized [] = Unit {0}
AllSized (out ∷ outs) = (length out < 2 ^ 32) × AllSized outs

-- The blocks were served one behind the other, from where the teams stood first.
pub record HasServed (said : List TeamPlay) (first : ℕ → Standing) (blocks outs : List (List ℕ)) (last : ℕ → Standing) : Type 0 where
  pub serves : ServesBlocks said first blocks outs last
  pub short : AllShort blocks
  pub sized : AllSized outs

-- a block of more bytes than a block may have was begun
pub record IsLongBlock (rest : List ℕ) : Type 0 where
  pub size : ℕ
  pub long : MOST_BLOCK_BYTES < size
  pub told : size < 2 ^ 32
  pub rest_is : rest ≡ length_bytes size

-- a block was read and served, and what goes out for it
pub record ServesNext (said : List TeamPlay) (old : ℕ → Standing) (rest out : List ℕ) : Type 0 where
  pub bytes : List ℕ
  pub short : length bytes ≤ MOST_BLOCK_BYTES
  pub rest_is : rest ≡ frame bytes
  pub new : ℕ → Standing
  pub serves : ServesBlock said old bytes out new

-- it goes out for more bytes than a length tells
pub record IsLongAnswer (said : List TeamPlay) (last : ℕ → Standing) (rest : List ℕ) : Type 0 where
  pub out : List ℕ
  pub served : ServesNext said last rest out
  pub long : 2 ^ 32 ≤ length out

-- a write failed behind a front of it
pub record BreaksOff (said : List TeamPlay) (last : ℕ → Standing) (rest broken : List ℕ) : Type 0 where
  pub out : List ℕ
  pub served : ServesNext said last rest out
  pub unwritten : List ℕ
  pub front_is : broken ++ unwritten ≡ frame out

-- ---- the ends

-- What the end says of what was read behind the blocks that were served and answered, and of what was written behind their answers;
-- `count` is how many bytes were read.
abbrev pub EndsSo : List TeamPlay → (ℕ → Standing) → ℕ → (rest broken : List ℕ) → RunEnd → RunView → RunView → Type 0
EndsSo said last count rest broken ends.Between old new =
    (broken ≡ []) × (rest ≡ []) × (count < MOST_INPUT_BYTES) × Rose old.input.ends new.input.ends
EndsSo said last count rest broken ends.Read old new = (broken ≡ []) × Rose old.input.faults new.input.faults
EndsSo said last count rest broken ends.Write old new = BreaksOff said last rest broken × Rose old.faults new.faults
EndsSo said last count rest broken ends.Memory old new = broken ≡ []
EndsSo said last count rest broken ends.AtLimit old new =
    (broken ≡ []) × ((rest ≡ []) ⊎ IsCut MOST_BLOCK_BYTES rest) × (count ≡ MOST_INPUT_BYTES)
EndsSo said last count rest broken ends.Inside old new =
    (broken ≡ []) × IsCut MOST_BLOCK_BYTES rest × (count < MOST_INPUT_BYTES) × Rose old.input.ends new.input.ends
EndsSo said last count rest broken ends.TooLong old new =
    (broken ≡ []) × (IsLongBlock rest ⊎ IsLongAnswer said last rest) × (count ≤ MOST_INPUT_BYTES)

-- Blocks were read, served and answered; and the run ended so.
pub record RunsTo (said : List TeamPlay) (first : ℕ → Standing) (end : RunEnd) (old new : RunView) : Type 0 where
  pub blocks : List (List ℕ)
  pub outs : List (List ℕ)
  pub last : ℕ → Standing
  pub rest : List ℕ
  pub broken : List ℕ
  pub served : HasServed said first blocks outs last
  pub given : Gains old.input.given new.input.given (framed blocks ++ rest)
  pub taken : Gains old.taken new.taken (framed outs ++ broken)
  pub ends_so : EndsSo said last (length (framed blocks ++ rest)) rest broken end old new

-- the same by its status, from where the teams stand when nothing was read
pub record Ran (said : List TeamPlay) (status : ℕ) (old new : RunView) : Type 0 where
  pub end : RunEnd
  pub status_is : status ≡ status_of end
  pub runs : RunsTo said (first_standings said) end old new

-- the words say teams
abbrev pub FitTeams : List (List ℕ) → Type 0
FitTeams words = (said : List TeamPlay) × SaysTeams words said
