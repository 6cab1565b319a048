-- What the status of a report tells.
use Rattle.std.proofs.Common.{◌≡◌, ℕ, subst}
use Rattle.grid_outside.specs.Counts.{Rose}
use Rattle.journal_reader.specs.declared.reader.Ending.{Ending}
use Rattle.journal_reader.specs.declared.reader.Ending.TheVariants as ending
use Rattle.grid_log.specs.Logs.{Input, Output, ending_status}
use Rattle.grid_report.specs.declared.words.Report.{Report}
use Rattle.grid_report.specs.Reports.{ReportEnds, head_cut, journal_ended, no_journal, no_memory, read_failed, write_failed}

-- an end of a journal is told by none of these
no_ending_5 : (e : Ending) (status : ℕ) → status ≡ ending_status e → status ≡ 5 → ⊥
no_ending_5 ending.Whole status is h = absurd (cc)
no_ending_5 ending.Bad status is h = absurd (cc)
no_ending_5 ending.Cut status is h = absurd (cc)
no_ending_5 ending.Limit status is h = absurd (cc)

no_ending_6 : (e : Ending) (status : ℕ) → status ≡ ending_status e → status ≡ 6 → ⊥
no_ending_6 ending.Whole status is h = absurd (cc)
no_ending_6 ending.Bad status is h = absurd (cc)
no_ending_6 ending.Cut status is h = absurd (cc)
no_ending_6 ending.Limit status is h = absurd (cc)

no_ending_8 : (e : Ending) (status : ℕ) → status ≡ ending_status e → status ≡ 8 → ⊥
no_ending_8 ending.Whole status is h = absurd (cc)
no_ending_8 ending.Bad status is h = absurd (cc)
no_ending_8 ending.Cut status is h = absurd (cc)
no_ending_8 ending.Limit status is h = absurd (cc)

module _ (report : Report) (old new : Input) (before after : Output) (status : ℕ) where
  -- no report ends as other words do
  pub words_fit : ReportEnds report old new before after status → status ≡ 8 → ⊥
  words_fit (journal_ended c H e ended is gains) h = no_ending_8 e status is h
  words_fit (write_failed c H e ended is rose front) h = absurd (cc)
  words_fit (no_journal is none same) h = absurd (cc)
  words_fit (head_cut is cut same) h = absurd (cc)
  words_fit (read_failed is rose same) h = absurd (cc)
  words_fit (no_memory is same) h = absurd (cc)

  -- a read failed, or a write did
  pub read_rose : ReportEnds report old new before after status → status ≡ 5 → Rose old.faults new.faults
  read_rose (journal_ended c H e ended is gains) h = absurd (no_ending_5 e status is h)
  read_rose (write_failed c H e ended is rose front) h = absurd (cc)
  read_rose (no_journal is none same) h = absurd (cc)
  read_rose (head_cut is cut same) h = absurd (cc)
  read_rose (read_failed is rose same) h = rose
  read_rose (no_memory is same) h = absurd (cc)

  pub write_rose : ReportEnds report old new before after status → status ≡ 6 → Rose before.faults after.faults
  write_rose (journal_ended c H e ended is gains) h = absurd (no_ending_6 e status is h)
  write_rose (write_failed c H e ended is rose front) h = rose
  write_rose (no_journal is none same) h = absurd (cc)
  write_rose (head_cut is cut same) h = absurd (cc)
  write_rose (read_failed is rose same) h = absurd (cc)
  write_rose (no_memory is same) h = absurd (cc)

-- the report that the words ask for is the one that was asked for
pub report_as : (asked other : Report) (old new : Input) (before after : Output) (status : ℕ) → ReportEnds asked old new before after status → asked ≡ other →
    ReportEnds other old new before after status
report_as asked other old new before after status ends same = subst (λ (r : Report). ReportEnds r old new before after status) same ends
