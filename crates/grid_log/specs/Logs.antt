-- How the writing of a log ends.
use Rattle.std.specs.Prelude.{◌≡◌, ◌⊎◌, ℕ, zero, suc, ◌+◌, ◌-◌, ◌^◌, ◌≤◌, List, Option, Some, IfSome}
use Rattle.grid_types.specs.declared.config.HubConfig.{HubConfig}
use Rattle.grid_types.specs.declared.entry.Entry.{Entry}
use Rattle.grid_outside.specs.Counts.{Rose}
use Rattle.grid_outside.specs.Told.{ClockView, Gains, Pauses, TookFront, paused}
use Rattle.journal_reader.specs.declared.reader.Ending.{Ending}
use Rattle.journal_reader.specs.declared.reader.Ending.TheVariants as ending
use Rattle.journal_reader.specs.Readings.{Told, HasBegun, HasEnded, IsCut, IsNone, told}
use Rattle.grid_log.specs.declared.form.Form.{Form}
use Rattle.grid_log.specs.declared.log.TheConstants.{PAUSE_MS}
use Rattle.grid_log.specs.Past.{Past}
use Rattle.grid_log.specs.Events.{log_on}

-- what an input tells
pub record Input : Type 0 where
  pub given : Option (List ℕ)
  pub ends : ℕ
  pub faults : ℕ

abbrev pub input_of : Option (List ℕ) → ℕ → ℕ → Input
input_of given ends faults = record { given = given; ends = ends; faults = faults }

-- what it tells a reader
abbrev pub reading_of : Input → Told
reading_of input = told input.given input.ends

-- where a log begins: what is past, of which nothing is told, and what its input has told
pub record Start : Type 0 where
  pub past : Past
  pub input : Input

abbrev pub start_at : Past → Input → Start
start_at past input = record { past = past; input = input }

-- what an output tells
pub record Output : Type 0 where
  pub taken : Option (List ℕ)
  pub faults : ℕ

abbrev pub output_of : Option (List ℕ) → ℕ → Output
output_of taken faults = record { taken = taken; faults = faults }

-- the status that tells how a journal ended
abbrev pub ending_status : Ending → ℕ
ending_status ending.Whole = 0
ending_status ending.Bad = 2
ending_status ending.Cut = 3
ending_status ending.Limit = 9

-- a journal of this history was read, and perhaps more, and its log was written; or nothing was written
pub data LoggedSoFar (form : Form) (old : Start) (new : Input) (before after : Output) : Type 0 where
  some_read : (c : HubConfig) (H : List Entry) → HasBegun (reading_of old.input) (reading_of new) c H →
      Gains before.taken after.taken (log_on form c old.past H) → LoggedSoFar form old new before after
  none_read : after.taken ≡ before.taken → LoggedSoFar form old new before after

-- how the log of an input ends: the journal ended, and the log of its entries was written; there is no journal, or its head is cut
-- off, and nothing was written; a read failed, or memory was wanted, and the log of entries that were read was written; or a write
-- failed, and a front of such a log was written
pub data LogEnds (form : Form) (old : Start) (new : Input) (before after : Output) (status : ℕ) : Type 0 where
  journal_ended : (c : HubConfig) (H : List Entry) (e : Ending) → HasEnded (reading_of old.input) (reading_of new) c H e →
      status ≡ ending_status e → Gains before.taken after.taken (log_on form c old.past H) → LogEnds form old new before after status
  no_journal : status ≡ 4 → IsNone (reading_of old.input) (reading_of new) → after.taken ≡ before.taken → LogEnds form old new before after status
  head_cut : status ≡ 3 → IsCut (reading_of old.input) (reading_of new) → after.taken ≡ before.taken → LogEnds form old new before after status
  read_failed : status ≡ 5 → Rose old.input.faults new.faults → LoggedSoFar form old new before after → LogEnds form old new before after status
  write_failed : (c : HubConfig) (H : List Entry) → status ≡ 6 → Rose before.faults after.faults → HasBegun (reading_of old.input) (reading_of new) c H →
      TookFront before.taken after.taken (log_on form c old.past H) → LogEnds form old new before after status
  no_memory : status ≡ 7 → LoggedSoFar form old new before after → LogEnds form old new before after status

-- the journal ended where its input ended, which may grow
abbrev pub MayGoOn : ℕ → Type 0
MayGoOn status = (status ≡ 0) ⊎ (status ≡ 3)

-- the pauses with so many more, each as long as a log waits
unfoldable pub waited : ℕ → Pauses → Pauses
waited zero p = p
waited (suc count) p = paused PAUSE_MS (waited count p)

-- so many ends of the input were told in the meantime, or their count stands at its greatest value
abbrev pub FoundEnds : ℕ → ℕ → ℕ → Type 0
FoundEnds count before after = (before + count ≤ after) ⊎ (2 ^ 64 - 1 ≤ after)

-- so many pauses were made, and no other, and the input was found at its end before each of them and behind the last
pub record HasWaited (pauses : ℕ) (old new : Input) (before after : ClockView) : Type 0 where
  pub paused_so : IfSome before.pauses (λ p. after.pauses ≡ Some (waited pauses p))
  pub found_ends : FoundEnds (pauses + 1) old.ends new.ends

-- a log ends where its input ends only behind so many pauses, but for an input that ends inside its head
abbrev pub Waits : ℕ → Input → Input → ClockView → ClockView → ℕ → Type 0
Waits pauses old new before after status =
    MayGoOn status →
    IsCut (reading_of old) (reading_of new) ⊎ HasWaited pauses old new before after
