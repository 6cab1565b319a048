-- How a check ends that is told on an output.
use Rattle.std.specs.Prelude.{◌≡◌, ℕ, true, List, ◌++◌, codes, decimal}
use Rattle.grid_outside.specs.Counts.{Rose}
use Rattle.grid_outside.specs.Told.{Gains, SinkView, SourceView, TookFront}
use Rattle.journal_verdicts.specs.declared.verdict.Verdict.{Verdict}
use Rattle.journal_verdicts.specs.declared.verdict.Verdict.TheVariants as verdict
use Rattle.journal_verdicts.specs.Verdicts.{IsVerdict, tells_end}

-- the line that tells a verdict
abbrev pub verdict_line : Verdict → List ℕ
verdict_line (verdict.Legal entries) = codes "legal: " ++ (decimal entries ++ codes " entries\n")
verdict_line (verdict.Illegal entry) = codes "illegal: entry " ++ (decimal entry ++ codes "\n")
verdict_line (verdict.Bad at) = codes "bad: byte " ++ (decimal at ++ codes "\n")
verdict_line (verdict.Cut at) = codes "cut: byte " ++ (decimal at ++ codes "\n")
verdict_line verdict.NotJournal = codes "not a journal\n"
verdict_line verdict.Limit = codes "limit\n"

-- the status that tells it
abbrev pub verdict_status : Verdict → ℕ
verdict_status (verdict.Legal entries) = 0
verdict_status (verdict.Illegal entry) = 1
verdict_status (verdict.Bad at) = 2
verdict_status (verdict.Cut at) = 3
verdict_status verdict.NotJournal = 4
verdict_status verdict.Limit = 9

-- how the telling of a verdict ends: all of its line was written; a write failed, and a front of it was written; or there was
-- no memory for the line, and nothing was written
pub data TellEnds (old new : SinkView) (v : Verdict) (status : ℕ) : Type 0 where
  was_told : status ≡ verdict_status v → Gains old.taken new.taken (verdict_line v) → TellEnds old new v status
  broke_off : status ≡ 6 → Rose old.faults new.faults → TookFront old.taken new.taken (verdict_line v) → TellEnds old new v status
  no_line : status ≡ 7 → new.taken ≡ old.taken → TellEnds old new v status

-- how a check ends: the verdict on what was read is told; a read failed, and nothing was written; or there was no memory to
-- come to a verdict, and nothing was written
pub data CheckEnds (old new : SourceView) (before after : SinkView) (status : ℕ) : Type 0 where
  verdict_found : (v : Verdict) → IsVerdict old.given new.given v → (tells_end v ≡ true → Rose old.ends new.ends) → TellEnds before after v status →
      CheckEnds old new before after status
  read_failed : status ≡ 5 → Rose old.faults new.faults → after.taken ≡ before.taken → CheckEnds old new before after status
  no_verdict : status ≡ 7 → after.taken ≡ before.taken → CheckEnds old new before after status
