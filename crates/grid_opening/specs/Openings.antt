-- What an opening has of a history, and how it goes on.
use Rattle.std.specs.Prelude.{◌≡◌, ℕ, ◌+◌, ◌-◌, ◌^◌, ◌<◌, ◌≤◌, max, List, ◌++◌, Option, IfSome, Result, Ok, Err}
use Rattle.grid_types.specs.declared.config.HubConfig.{HubConfig}
use Rattle.grid_types.specs.declared.entry.Change.{Change}
use Rattle.grid_types.specs.declared.entry.Entry.{Entry}
use Rattle.grid_types.specs.declared.limits.TheConstants.{LAST_MOMENT}
use Rattle.grid_types.specs.History.{clock}
use Rattle.grid_types.specs.Tables.{entry}
use Rattle.grid_outside.specs.Counts.{Rose}
use Rattle.grid_journal.specs.EntryReads.{IsEntry}
use Rattle.grid_journal.specs.Fits.{AllFit}
use Rattle.grid_journal.specs.Spelled.{journal_bytes}
use Rattle.grid_ledger.specs.declared.ledger.GridLedger.{GridLedger}
use Rattle.grid_ledger.specs.LedgerStands.{AtMost, Stands}
use Rattle.grid_ledger.specs.Open.{NoRequest, NoSlot}
use Rattle.grid_opening.specs.declared.fault.OpeningFault.{OpeningFault}
use Rattle.grid_opening.specs.declared.fault.OpeningFault.TheVariants as fault
use Rattle.grid_opening.specs.declared.opening.Opening.{Opening}
use Rattle.grid_opening.specs.Settling.{Always, with_change}
use Rattle.grid_opening.specs.declared.finishing.Settled.{Settled}

-- it is made of these
pub record Is {K L : Type 0} (ledger : GridLedger) (listener : L) (keeper : K) (most_caller : ℕ) (opening : Opening K L) : Type 0 where
  pub same_ledger : opening.ledger ≡ ledger
  pub same_listener : opening.listener ≡ listener
  pub same_keeper : opening.keeper ≡ keeper
  pub same_most : opening.most_caller ≡ most_caller

-- the bytes are the journal of the history, each entry of which can be read again
pub record IsKept (config : HubConfig) (history : List Entry) (bytes : List ℕ) : Type 0 where
  pub entries_fit : AllFit IsEntry history
  pub spelled : bytes ≡ journal_bytes config history

-- what is told is the history's journal
abbrev pub Keeps : HubConfig → List Entry → Option (List ℕ) → Type 0
Keeps config history kept = IfSome kept (λ bytes. IsKept config history bytes)

-- the ledger stands for the history, which is legal; the listener was told of it, no caller in it has a greater number, and the
-- keeper keeps its journal
pub record Holds {K L : Type 0} (kept : K → Option (List ℕ)) (heard : L → List Entry → Type 0) (opening : Opening K L) (history : List Entry) : Type 0 where
  pub stands : Stands opening.ledger history
  pub was_heard : heard opening.listener history
  pub callers : AllFit (AtMost opening.most_caller) history
  pub keeps : Keeps opening.ledger.config history (kept opening.keeper)

-- The caller's change follows each history that the opening holds, where that is permitted, and nothing else does. A caller whose
-- number is no greater than the greatest leaves that as it is.
pub record Enters {K L : Type 0} (kept : K → Option (List ℕ)) (heard : L → List Entry → Type 0) (old new : Opening K L) (caller : ℕ) (change : Change) : Type 0 where
  pub same_config : new.ledger.config ≡ old.ledger.config
  pub same_most : caller ≤ old.most_caller → new.most_caller ≡ old.most_caller
  pub after : (history : List Entry) → Holds kept heard old history → Holds kept heard new (with_change old.ledger.config history caller change)

-- by what came of it: an entry was not kept only where the keeper failed, and not spelled only where it could not be read again
abbrev pub Entered : {K L : Type 0} → (K → Option (List ℕ)) → (L → List Entry → Type 0) → (K → ℕ) → Opening K L → Opening K L → ℕ → Change → Result (Unit {0}) OpeningFault → Type 0
Entered kept heard faults old new caller change (Ok done) = Enters kept heard old new caller change × (faults old.keeper ≤ faults new.keeper)
Entered kept heard faults old new caller change (Err fault.Unkept) = Rose (faults old.keeper) (faults new.keeper)
Entered kept heard faults old new caller change (Err fault.Late) = IsEntry (entry caller change) → ⊥
Entered kept heard faults old new caller change (Err fault.Memory) = Unit {0}
Entered kept heard faults old new caller change (Err fault.Numbers) = ⊥

-- it has that of the history with these entries behind it, which did this to it; no caller is new
pub record LeadsTo {K L : Type 0} (kept : K → Option (List ℕ)) (heard : L → List Entry → Type 0) (did : List Entry → List Entry → Type 0) (old new : Opening K L) (history : List Entry) : Type 0 where
  pub made : List Entry
  pub holds : Holds kept heard new (made ++ history)
  pub same_most : new.most_caller ≡ old.most_caller
  pub done : did history (made ++ history)

-- Each history that the opening holds and of which this is given goes on by entries that did this to it, and with it all that the
-- opening has of it.
pub record Leads {K L : Type 0} (kept : K → Option (List ℕ)) (heard : L → List Entry → Type 0) (given : List Entry → Type 0) (did : List Entry → List Entry → Type 0) (old new : Opening K L) : Type 0 where
  pub same_config : new.ledger.config ≡ old.ledger.config
  pub after : (history : List Entry) → Holds kept heard old history → given history → LeadsTo kept heard did old new history

-- By what came of it: it was done, or it broke off, for want of memory, where the keeper failed, or where the moment is past the last
-- one that there is.
abbrev pub WentGiven : {K L : Type 0} → (K → Option (List ℕ)) → (L → List Entry → Type 0) → (K → ℕ) → (List Entry → Type 0) → ℕ → (List Entry → List Entry → Type 0) → Opening K L → Opening K L → Result (Unit {0}) OpeningFault → Type 0
WentGiven kept heard faults given at did old new (Ok done) = Leads kept heard given did old new × (faults old.keeper ≤ faults new.keeper)
WentGiven kept heard faults given at did old new (Err fault.Unkept) = Rose (faults old.keeper) (faults new.keeper)
WentGiven kept heard faults given at did old new (Err fault.Late) = LAST_MOMENT < at
WentGiven kept heard faults given at did old new (Err fault.Memory) = Unit {0}
WentGiven kept heard faults given at did old new (Err fault.Numbers) = ⊥

-- the same, whatever the history
abbrev pub Went : {K L : Type 0} → (K → Option (List ℕ)) → (L → List Entry → Type 0) → (K → ℕ) → ℕ → (List Entry → List Entry → Type 0) → Opening K L → Opening K L → Result (Unit {0}) OpeningFault → Type 0
Went kept heard faults at did old new result = WentGiven kept heard faults Always at did old new result

-- what is handed over has all that the opening had of the history, in which nothing is open; each caller in it has a number below
-- the first that a pass may have
pub record HandsOver {K L : Type 0} (kept : K → Option (List ℕ)) (heard : L → List Entry → Type 0) (opening : Opening K L) (settled : Settled K L) (history : List Entry) : Type 0 where
  pub same_config : settled.ledger.config ≡ opening.ledger.config
  pub stands : Stands settled.ledger history
  pub was_heard : heard settled.listener history
  pub keeps : Keeps settled.ledger.config history (kept settled.keeper)
  pub callers : AllFit (λ entry. entry.caller < settled.first_caller) history
  pub no_slot : NoSlot history
  pub no_request : NoRequest history

-- all of the opening is handed over
pub record Hands {K L : Type 0} (opening : Opening K L) (settled : Settled K L) : Type 0 where
  pub same_ledger : settled.ledger ≡ opening.ledger
  pub same_listener : settled.listener ≡ opening.listener
  pub same_keeper : settled.keeper ≡ opening.keeper
  pub next : settled.first_caller ≡ opening.most_caller + 1

-- What is handed over has all of the history with these entries behind it, in which nothing is open. The first number that a pass may have
-- is the one behind the greatest of before.
pub record SettlesTo {K L : Type 0} (kept : K → Option (List ℕ)) (heard : L → List Entry → Type 0) (opening : Opening K L) (settled : Settled K L) (history : List Entry) : Type 0 where
  pub made : List Entry
  pub hands_over : HandsOver kept heard opening settled (made ++ history)
  pub next : settled.first_caller ≡ opening.most_caller + 1

-- By the fault: the keeper failed; the moment, or the last one of the history, is past the last one that there is; or a
-- caller had the greatest number already. Memory may lack at any time.
abbrev pub Reason : {K L : Type 0} → (K → Option (List ℕ)) → (L → List Entry → Type 0) → (K → ℕ) → Opening K L → ℕ → K → OpeningFault → Type 0
Reason kept heard faults opening at keeper fault.Unkept = Rose (faults opening.keeper) (faults keeper)
Reason kept heard faults opening at keeper fault.Late = (history : List Entry) → Holds kept heard opening history → LAST_MOMENT < max at (clock history)
Reason kept heard faults opening at keeper fault.Numbers = (history : List Entry) → Holds kept heard opening history → 2 ^ 64 - 1 ≤ opening.most_caller
Reason kept heard faults opening at keeper fault.Memory = Unit {0}
