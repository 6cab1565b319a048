-- How the writing of a text ends.
use Rattle.std.specs.Prelude.{◌≡◌, ℕ, List}
use Rattle.grid_outside.specs.Counts.{Rose}
use Rattle.grid_outside.specs.Told.{Gains, TookFront}
use Rattle.journal_reader.specs.declared.reader.Ending.{Ending}
use Rattle.grid_log.specs.Logs.{Output, ending_status}

-- it was written, and the status is that of the journal's end; a write failed within it; or memory was wanted, and none of it was
pub data TextEnds (bytes : List ℕ) (e : Ending) (before after : Output) (status : ℕ) : Type 0 where
  whole : status ≡ ending_status e → Gains before.taken after.taken bytes → TextEnds bytes e before after status
  in_part : status ≡ 6 → Rose before.faults after.faults → TookFront before.taken after.taken bytes → TextEnds bytes e before after status
  unspelled : status ≡ 7 → after.taken ≡ before.taken → TextEnds bytes e before after status
