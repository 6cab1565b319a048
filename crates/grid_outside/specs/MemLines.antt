-- What a line in memory does.
use Rattle.std.specs.Prelude.{◌≡◌, ℕ, Bool, true, false, nat_le, List, Option, None, Some, Ok, Err}
use Rattle.grid_outside.specs.declared.source.Failed.{Failed}
use Rattle.grid_outside.specs.declared.memory.MemSource.{MemSource}
use Rattle.grid_outside.specs.declared.memory.MemSink.{MemSink}
use Rattle.grid_outside.specs.declared.mem_line.MemLine.{MemLine}
use Rattle.grid_outside.specs.declared.line.Reading.{Reading}
use Rattle.grid_outside.specs.declared.line.Reading.TheVariants as reading
use Rattle.grid_outside.specs.declared.line.Writing.{Writing}
use Rattle.grid_outside.specs.declared.line.Writing.TheVariants as writing
use Rattle.grid_outside.specs.Counts.{one_more}
use Rattle.grid_outside.specs.Memory.{HasFailed, Reads, Writes}
use Rattle.grid_outside.specs.MemLinks.{link_view}
use Rattle.grid_outside.specs.Told.{LinkView}
use Rattle.grid_outside.specs.Waiting.{CountsOne, is_waiting}

-- all that it tells
abbrev pub line_view : MemLine → LinkView
line_view l = link_view l.link

-- a read finds nothing there just where that is planned; else it is one of the source
abbrev pub ReadsAsPlanned : Bool → Reading → MemSource → MemSource → List ℕ → List ℕ → Type 0
ReadsAsPlanned true reading.NotNow old new room filled = new ≡ old
ReadsAsPlanned false (reading.Bytes n) old new room filled = Reads {E = Failed} old new room filled (Ok n)
ReadsAsPlanned false reading.End old new room filled = Reads {E = Failed} old new room filled (Ok 0)
ReadsAsPlanned false reading.Failed old new room filled = (f : Failed) × Reads old new room filled (Err f)
ReadsAsPlanned waits result old new room filled = ⊥

abbrev pub WritesAsPlanned : Bool → Writing → MemSink → MemSink → List ℕ → Type 0
WritesAsPlanned true writing.NotNow old new from = new ≡ old
WritesAsPlanned false (writing.Bytes n) old new from = Writes {E = Failed} old new from (Ok n)
WritesAsPlanned false writing.Failed old new from = (f : Failed) × Writes old new from (Err f)
WritesAsPlanned waits result old new from = ⊥

pub record LineReads (old new : MemLine) (room filled : List ℕ) (result : Reading) : Type 0 where
  pub counts : CountsOne old.reads_wait new.reads_wait
  pub goes : ReadsAsPlanned (is_waiting old.reads_wait) result old.link.source new.link.source room filled
  pub sink : new.link.sink ≡ old.link.sink
  pub writes : new.writes_wait ≡ old.writes_wait
  pub leaves : new.leaves ≡ old.leaves
  pub looks : new.looks ≡ old.looks

pub record LineWrites (old new : MemLine) (from : List ℕ) (result : Writing) : Type 0 where
  pub counts : CountsOne old.writes_wait new.writes_wait
  pub goes : WritesAsPlanned (is_waiting old.writes_wait) result old.link.sink new.link.sink from
  pub source : new.link.source ≡ old.link.source
  pub reads : new.reads_wait ≡ old.reads_wait
  pub leaves : new.leaves ≡ old.leaves
  pub looks : new.looks ≡ old.looks

-- whether the other side is gone at a look
abbrev pub is_gone : Option ℕ → ℕ → Bool
is_gone None look = false
is_gone (Some first) look = nat_le first look

-- a look finds the other side gone just where that is planned
abbrev pub LooksAsPlanned : Bool → MemSource → MemSource → Type 0
LooksAsPlanned true old new = HasFailed old new
LooksAsPlanned false old new = new ≡ old

pub record LineLooks (old new : MemLine) (result : Bool) : Type 0 where
  pub planned : result ≡ is_gone old.leaves old.looks
  pub leaves : new.leaves ≡ old.leaves
  pub looks : new.looks ≡ one_more old.looks
  pub source : LooksAsPlanned result old.link.source new.link.source
  pub sink : new.link.sink ≡ old.link.sink
  pub reads : new.reads_wait ≡ old.reads_wait
  pub writes : new.writes_wait ≡ old.writes_wait
