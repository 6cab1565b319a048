-- What a report of a history is, and how its writing ends.
use Rattle.std.specs.Prelude.{◌≡◌, ℕ, List}
use Rattle.grid_types.specs.declared.config.HubConfig.{HubConfig}
use Rattle.grid_types.specs.declared.entry.Entry.{Entry}
use Rattle.grid_outside.specs.Counts.{Rose}
use Rattle.grid_outside.specs.Told.{Gains, TookFront}
use Rattle.journal_reader.specs.declared.feed.ReadFault.TheVariants as fault
use Rattle.journal_reader.specs.declared.reader.Ending.{Ending}
use Rattle.journal_reader.specs.Readings.{HasEnded, IsCut, IsNone}
use Rattle.grid_log.specs.Logs.{Input, Output, ending_status, reading_of}
use Rattle.grid_farm.specs.declared.reading.Unread.{Unread}
use Rattle.grid_farm.specs.declared.reading.Unread.TheVariants as unread
use Rattle.grid_farm.specs.Farms.{Farm, farm_of}
use Rattle.grid_metrics.specs.Metrics.{metrics}
use Rattle.grid_page.specs.Page.{page}
use Rattle.grid_report.specs.declared.words.Report.{Report}
use Rattle.grid_report.specs.declared.words.Report.TheVariants as report

-- the report of what is known of a farm
abbrev pub report_by : Report → Farm → List ℕ
report_by report.Metrics farm = metrics farm
report_by report.Page farm = page farm

-- the report of a history
abbrev pub report_on : Report → List Entry → List ℕ
report_on report history = report_by report (farm_of history)

-- the status that tells why no journal was read to its end
abbrev pub unread_status : Unread → ℕ
unread_status unread.NotJournal = 4
unread_status unread.Cut = 3
unread_status (unread.Fault fault.Read) = 5
unread_status (unread.Fault fault.Memory) = 7

-- how the report of an input ends: the journal ended, and the report of its entries was written, or a write failed and a front of
-- it was; there is no journal, its head is cut off, a read failed, or memory was wanted, and nothing was written
pub data ReportEnds (report : Report) (old new : Input) (before after : Output) (status : ℕ) : Type 0 where
  journal_ended : (c : HubConfig) (H : List Entry) (e : Ending) → HasEnded (reading_of old) (reading_of new) c H e →
      status ≡ ending_status e → Gains before.taken after.taken (report_on report H) → ReportEnds report old new before after status
  write_failed : (c : HubConfig) (H : List Entry) (e : Ending) → HasEnded (reading_of old) (reading_of new) c H e →
      status ≡ 6 → Rose before.faults after.faults → TookFront before.taken after.taken (report_on report H) → ReportEnds report old new before after status
  no_journal : status ≡ 4 → IsNone (reading_of old) (reading_of new) → after.taken ≡ before.taken → ReportEnds report old new before after status
  head_cut : status ≡ 3 → IsCut (reading_of old) (reading_of new) → after.taken ≡ before.taken → ReportEnds report old new before after status
  read_failed : status ≡ 5 → Rose old.faults new.faults → after.taken ≡ before.taken → ReportEnds report old new before after status
  no_memory : status ≡ 7 → after.taken ≡ before.taken → ReportEnds report old new before after status
