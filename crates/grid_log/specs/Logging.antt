-- Where the writing of a log stands, and how it goes on.
use Rattle.std.specs.Prelude.{◌≡◌, ℕ, ◌≤◌, List, Option, None, Some}
use Rattle.grid_types.specs.declared.entry.Entry.{Entry}
use Rattle.grid_outside.specs.Counts.{Rose}
use Rattle.grid_outside.specs.Told.{Gains, TookFront}
use Rattle.journal_reader.specs.declared.feed.ReadFault.{ReadFault}
use Rattle.journal_reader.specs.declared.feed.ReadFault.TheVariants as fault
use Rattle.journal_reader.specs.declared.reader.Next.{Next}
use Rattle.journal_reader.specs.declared.reader.Next.TheVariants as next
use Rattle.journal_reader.specs.declared.reader.Opened.{Opened}
use Rattle.journal_reader.specs.Readings.{Goes, HasBegun, HasRead, Opens, Stays}
use Rattle.grid_log.specs.declared.log.Logging.{Logging}
use Rattle.grid_log.specs.declared.log.Unlogged.{Unlogged}
use Rattle.grid_log.specs.declared.log.Unlogged.TheVariants as unlogged
use Rattle.grid_log.specs.Past.{past_on}
use Rattle.grid_log.specs.Recalls.{recalled}
use Rattle.grid_log.specs.Events.{log_on}
use Rattle.grid_log.specs.Logs.{Input, Output, Start, LogEnds, reading_of}

-- the log of a history was written, and neither count of faults fell
pub record IsWritten (old : Start) (now : Input) (before after : Output) (logging : Logging) (H : List Entry) : Type 0 where
  pub past_is : recalled logging.past ≡ past_on old.past H
  pub written : Gains before.taken after.taken (log_on logging.teller.form logging.reader.config old.past H)
  pub read_faults : old.input.faults ≤ now.faults
  pub write_faults : before.faults ≤ after.faults

-- the journal of a history was read, and its log was written
pub record HasLogged (old : Start) (now : Input) (before after : Output) (logging : Logging) : Type 0 where
  pub history : List Entry
  pub has_read : HasRead (reading_of old.input) (reading_of now) logging.reader history
  pub is_written : IsWritten old now before after logging history

-- the same, and what the journal has next was read
pub record HasNext (old : Start) (now : Input) (before after : Output) (logging : Logging) (next : Next) : Type 0 where
  pub history : List Entry
  pub goes : Goes (reading_of old.input) (reading_of now) logging.reader history next
  pub stays : Stays (reading_of old.input) (reading_of now) logging.reader history next
  pub begun : HasBegun (reading_of old.input) (reading_of now) logging.reader.config history
  pub is_written : IsWritten old now before after logging history

-- the log goes on, or has ended with a status
abbrev pub Steps : Start → Input → Output → Output → Logging → Option ℕ → Type 0
Steps old now before after logging None = HasLogged old now before after logging
Steps old now before after logging (Some status) =
    LogEnds logging.teller.form old now before after status

abbrev pub fault_status : ReadFault → ℕ
fault_status fault.Read = 5
fault_status fault.Memory = 7

abbrev pub unlogged_status : Unlogged → ℕ
unlogged_status unlogged.Failed = 6
unlogged_status unlogged.Memory = 7

-- why lines were not written: a write failed within them, or memory was wanted and none of them was written
abbrev pub Stopped : Output → Output → List ℕ → Unlogged → Type 0
Stopped old new bytes unlogged.Failed =
    Rose old.faults new.faults × TookFront old.taken new.taken bytes
Stopped old new bytes unlogged.Memory = new.taken ≡ old.taken

-- the journal has an entry next
abbrev pub IsEntry : Next → Type 0
IsEntry (next.Entry entry) = Unit {0}
IsEntry (next.Ends e) = ⊥

-- a journal was opened, or none
pub record Begins (old now : Input) (opened : Opened) : Type 0 where
  pub opens : Opens (reading_of old) (reading_of now) opened
  pub read_faults : old.faults ≤ now.faults
