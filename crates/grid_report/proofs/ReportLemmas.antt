-- How a report ends.
use Rattle.std.proofs.Common.{◌≡◌, ℕ, subst}
use Rattle.grid_outside.specs.Told.{Gains, TookFront}
use Rattle.journal_reader.specs.declared.feed.ReadFault.TheVariants as fault
use Rattle.journal_reader.specs.declared.reader.Ending.{Ending}
use Rattle.grid_log.specs.Logs.{Input, Output}
use Rattle.grid_farm.specs.declared.reading.Unread.{Unread}
use Rattle.grid_farm.specs.declared.reading.Unread.TheVariants as unread
use Rattle.grid_farm.specs.Farms.{Farm}
use Rattle.grid_farm.specs.Reads.{IsRead, IsUnread}
use Rattle.grid_report.specs.declared.words.Report.{Report}
use Rattle.grid_report.specs.Reports.{ReportEnds, head_cut, journal_ended, no_journal, no_memory, read_failed, report_by, unread_status, write_failed}
use Rattle.grid_report.specs.Writes.{TextEnds, in_part, unspelled, whole}

-- the journal was read, and its report was written, or not all of it
pub report_ended : (report : Report) (old now : Input) (before after : Output) (farm : Farm) (e : Ending) (status : ℕ) → IsRead old now farm e →
    TextEnds (report_by report farm) e before after status → ReportEnds report old now before after status
report_ended report old now before after farm e status r (whole is gains) =
    journal_ended r.config r.history e r.ended is (subst (λ (f : Farm). Gains before.taken after.taken (report_by report f)) r.farm_is gains)
report_ended report old now before after farm e status r (in_part is rose front) =
    write_failed r.config r.history e r.ended is rose (subst (λ (f : Farm). TookFront before.taken after.taken (report_by report f)) r.farm_is front)
report_ended report old now before after farm e status r (unspelled is same) = no_memory is same

-- it was not read
pub report_unread : (report : Report) (old now : Input) (before after : Output) (why : Unread) (status : ℕ) → IsUnread old now why → status ≡ unread_status why →
    after.taken ≡ before.taken → ReportEnds report old now before after status
report_unread report old now before after unread.NotJournal status un is same = no_journal is un same
report_unread report old now before after unread.Cut status un is same = head_cut is un same
report_unread report old now before after (unread.Fault fault.Read) status un is same = read_failed is un same
report_unread report old now before after (unread.Fault fault.Memory) status un is same = no_memory is same
