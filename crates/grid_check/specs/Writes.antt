-- How a journal is written to an output.
use Rattle.std.specs.Prelude.{◌≡◌, ℕ, ◌<◌, ◌≤◌, List, ◌∷◌, length}
use Rattle.grid_types.specs.declared.config.HubConfig.{HubConfig}
use Rattle.grid_types.specs.declared.entry.Entry.{Entry}
use Rattle.grid_types.specs.History.{BeginsWith}
use Rattle.grid_outside.specs.Counts.{Rose}
use Rattle.grid_outside.specs.Told.{Gains, SinkView, TookFront}
use Rattle.grid_journal.specs.declared.reading.TheConstants.{MOST_ENTRY_BYTES}
use Rattle.grid_journal.specs.Spelled.{entry_bytes, head_bytes, journal_bytes}
use Rattle.grid_journal.specs.Fits.{AllFit}
use Rattle.grid_check.specs.declared.writing.Unwritten.{Unwritten}
use Rattle.grid_check.specs.declared.writing.Unwritten.TheVariants as unwritten

-- an entry has as many bytes as it may have, or more
abbrev pub IsShort : Entry → Type 0
IsShort e = length (entry_bytes e) ≤ MOST_ENTRY_BYTES

abbrev pub IsLong : Entry → Type 0
IsLong e = MOST_ENTRY_BYTES < length (entry_bytes e)

-- How the writing of a journal ends: all of it was written; a write failed, and a front of it was written; there was no memory,
-- and nothing was written, or the journal of the first entries; or the next entry is too long, and the journal of those before it
-- was written. A history has its newest entry first, so what it begins with is its end.
pub data WriteEnds (c : HubConfig) (H : List Entry) (old new : SinkView) (status : ℕ) : Type 0 where
  all_written : status ≡ 0 → AllFit IsShort H → Gains old.taken new.taken (journal_bytes c H) → WriteEnds c H old new status
  broke_off : status ≡ 6 → Rose old.faults new.faults → TookFront old.taken new.taken (journal_bytes c H) → WriteEnds c H old new status
  none_written : status ≡ 7 → new.taken ≡ old.taken → WriteEnds c H old new status
  first_written : (P : List Entry) → status ≡ 7 → BeginsWith H P → Gains old.taken new.taken (journal_bytes c P) → WriteEnds c H old new status
  too_long : (e : Entry) (P : List Entry) → status ≡ 10 → BeginsWith H (e ∷ P) → IsLong e → AllFit IsShort P → Gains old.taken new.taken (journal_bytes c P) →
      WriteEnds c H old new status

-- ---- one entry

abbrev pub status_of : Unwritten → ℕ
status_of unwritten.Failed = 6
status_of unwritten.Memory = 7
status_of unwritten.TooLong = 10

-- these bytes were written
pub record Gained (bytes : List ℕ) (old new : SinkView) : Type 0 where
  pub gains : Gains old.taken new.taken bytes
  pub later : old.faults ≤ new.faults

-- a write failed within these bytes
pub record BreaksOff (bytes : List ℕ) (old new : SinkView) : Type 0 where
  pub rose : Rose old.faults new.faults
  pub took : TookFront old.taken new.taken bytes

abbrev pub PutsHead : HubConfig → SinkView → SinkView → Type 0
PutsHead c old new = Gained (head_bytes c) old new

abbrev pub Puts : Entry → SinkView → SinkView → Type 0
Puts e old new = IsShort e × Gained (entry_bytes e) old new

-- why not all of it was written, and what was
abbrev pub StopsAtHead : HubConfig → Unwritten → SinkView → SinkView → Type 0
StopsAtHead c unwritten.Failed old new = BreaksOff (head_bytes c) old new
StopsAtHead c unwritten.Memory old new = new ≡ old
StopsAtHead c unwritten.TooLong old new = ⊥

abbrev pub StopsAt : Entry → Unwritten → SinkView → SinkView → Type 0
StopsAt e unwritten.Failed old new = BreaksOff (entry_bytes e) old new
StopsAt e unwritten.Memory old new = new ≡ old
StopsAt e unwritten.TooLong old new = IsLong e × (new ≡ old)
