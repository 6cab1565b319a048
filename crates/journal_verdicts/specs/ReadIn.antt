-- What a journal that was read leaves.
use Rattle.std.specs.Prelude.{◌≡◌, ℕ, List, length, Option, None, Some}
use Rattle.grid_types.specs.declared.entry.Entry.{Entry}
use Rattle.grid_journal.specs.Spelled.{journal_bytes}
use Rattle.grid_journal.specs.Fits.{AllFit}
use Rattle.grid_outside.specs.Told.{Gains}
use Rattle.grid_ledger.specs.LedgerStands.{AtMost, Stands}
use Rattle.journal_verdicts.specs.declared.verdict.Verdict.{Verdict}
use Rattle.journal_verdicts.specs.declared.found.Journal.{Journal}
use Rattle.journal_verdicts.specs.declared.found.ReadIn.{ReadIn}
use Rattle.journal_verdicts.specs.Verdicts.{IsJournal, Leaves, LeavesNone}

-- The bytes that were given since are the journal of a legal history, for which the ledger stands and of which the listener was
-- told, and a rest of which the verdict says what it is.
pub record HasJournal {L : Type 0} (heard : L → List Entry → Type 0) (old new : Option (List ℕ)) (v : Verdict) (found : Journal L) : Type 0 where
  pub history : List Entry
  pub bytes : List ℕ
  pub rest : List ℕ
  pub gains : Gains old new bytes
  pub journal : IsJournal found.ledger.config history bytes rest
  pub stands : Stands found.ledger history
  pub was_heard : heard found.listener history
  pub callers : AllFit (AtMost found.most_caller) history
  pub count : found.entries ≡ length history
  pub place : found.whole ≡ length (journal_bytes found.ledger.config history)
  pub leaves : Leaves v found.entries found.whole rest

-- by whether a journal is left
abbrev pub ByJournal : {L : Type 0} → (L → List Entry → Type 0) → Option (List ℕ) → Option (List ℕ) → Verdict → Option (Journal L) → Type 0
ByJournal heard old new v None = LeavesNone v
ByJournal heard old new v (Some found) = HasJournal heard old new v found

abbrev pub IsReadIn : {L : Type 0} → (L → List Entry → Type 0) → Option (List ℕ) → Option (List ℕ) → ReadIn L → Type 0
IsReadIn heard old new found = ByJournal heard old new found.verdict found.journal
