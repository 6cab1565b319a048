-- How a journal is read to its end.
use Rattle.std.specs.Prelude.{◌≡◌, ◌≤◌, List, Option, None, Some, Result, Ok, Err}
use Rattle.grid_types.specs.declared.config.HubConfig.{HubConfig}
use Rattle.grid_types.specs.declared.entry.Entry.{Entry}
use Rattle.grid_outside.specs.Counts.{Rose}
use Rattle.journal_reader.specs.declared.feed.ReadFault.{ReadFault}
use Rattle.journal_reader.specs.declared.feed.ReadFault.TheVariants as read_fault
use Rattle.journal_reader.specs.declared.reader.Ending.{Ending}
use Rattle.journal_reader.specs.declared.reader.Next.{Next}
use Rattle.journal_reader.specs.Readings.{Goes, HasEnded, HasRead, IsCut, IsNone}
use Rattle.grid_log.specs.Logs.{Input, reading_of}
use Rattle.grid_farm.specs.declared.reading.FarmRead.{FarmRead}
use Rattle.grid_farm.specs.declared.reading.Reading.{Reading}
use Rattle.grid_farm.specs.declared.reading.Unread.{Unread}
use Rattle.grid_farm.specs.declared.reading.Unread.TheVariants as unread
use Rattle.grid_farm.specs.Farms.{Farm, farm_of}
use Rattle.grid_farm.specs.Known.{known}

-- the journal of a history was read and ended so, and what is known is what that history tells
pub record IsRead (old now : Input) (farm : Farm) (e : Ending) : Type 0 where
  pub config : HubConfig
  pub history : List Entry
  pub ended : HasEnded (reading_of old) (reading_of now) config history e
  pub farm_is : farm ≡ farm_of history

-- a read failed, or memory was wanted
abbrev pub FaultEnds : Input → Input → ReadFault → Type 0
FaultEnds old now read_fault.Read = Rose old.faults now.faults
FaultEnds old now read_fault.Memory = Unit {0}

-- why no journal was read to its end
abbrev pub IsUnread : Input → Input → Unread → Type 0
IsUnread old now unread.NotJournal = IsNone (reading_of old) (reading_of now)
IsUnread old now unread.Cut = IsCut (reading_of old) (reading_of now)
IsUnread old now (unread.Fault why) = FaultEnds old now why

-- the journal of a history was read so far, and what is known is what that history tells
pub record ReadSoFar (old now : Input) (reading : Reading) : Type 0 where
  pub history : List Entry
  pub has_read : HasRead (reading_of old) (reading_of now) reading.reader history
  pub farm_is : known reading.farm ≡ farm_of history
  pub faults : old.faults ≤ now.faults

-- the same, and what the journal has next was read
pub record HasNext (old now : Input) (reading : Reading) (next : Next) : Type 0 where
  pub history : List Entry
  pub goes : Goes (reading_of old) (reading_of now) reading.reader history next
  pub farm_is : known reading.farm ≡ farm_of history
  pub faults : old.faults ≤ now.faults

-- how reading ends
abbrev pub ReadEnds : Input → Input → Reading → Result Ending ReadFault → Type 0
ReadEnds old now reading (Ok e) = IsRead old now (known reading.farm) e
ReadEnds old now reading (Err why) = FaultEnds old now why

-- reading goes on, or has ended
abbrev pub Steps : Input → Input → Reading → Option (Result Ending ReadFault) → Type 0
Steps old now reading None = ReadSoFar old now reading
Steps old now reading (Some ended) = ReadEnds old now reading ended

-- a journal was read to its end, or not
abbrev pub FarmEnds : Input → Input → Result FarmRead Unread → Type 0
FarmEnds old now (Ok read) = IsRead old now (known read.farm) read.ending
FarmEnds old now (Err why) = IsUnread old now why
