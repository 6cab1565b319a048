-- What a shared hub goes on from.
use Rattle.std.specs.Prelude.{ℕ, ◌-◌, ◌^◌, ◌<◌, ◌≤◌, max, List, ◌++◌}
use Rattle.grid_types.specs.declared.config.HubConfig.{HubConfig}
use Rattle.grid_types.specs.declared.entry.Entry.{Entry}
use Rattle.grid_types.specs.declared.limits.TheConstants.{LAST_MOMENT}
use Rattle.grid_types.specs.History.{clock}
use Rattle.grid_journal.specs.Fits.{AllFit}
use Rattle.grid_outside.specs.Counts.{Rose}
use Rattle.journal_keeper.specs.declared.keeping.Keeping.{Keeping}
use Rattle.journal_keeper.specs.Keepings.{faults_of, kept_by}
use Rattle.hub_core.specs.declared.hub.HubCore.{HubCore}
use Rattle.hub_core.specs.CoreStands as core_stands
use Rattle.grid_ledger.specs.declared.ledger.GridLedger.{GridLedger}
use Rattle.grid_ledger.specs.LedgerStands.{AtMost, Stands}
use Rattle.grid_ledger.specs.Open.{NoRequest, NoSlot}
use Rattle.grid_opening.specs.declared.fault.OpeningFault.{OpeningFault}
use Rattle.grid_opening.specs.declared.fault.OpeningFault.TheVariants as fault
use Rattle.grid_opening.specs.declared.finishing.Settled.{Settled}
use Rattle.grid_opening.specs.Openings.{Keeps}
use Rattle.grid_replay.specs.declared.replay.Replay.{Replay}
use Rattle.grid_replay.specs.Replays.{Shows}

-- one more than this is above the number of the entry's caller
abbrev pub IsBefore : ℕ → Entry → Type 0
IsBefore first entry = entry.caller < first

-- There is a history for which the ledger stands, whose items the replay has and whose journal is kept. Each of its callers has a
-- number below the first.
pub record IsHanded (settled : Settled Keeping Replay) : Type 0 where
  pub history : List Entry
  pub stands : Stands settled.ledger history
  pub shows : Shows settled.listener history
  pub keeps : Keeps settled.ledger.config history (kept_by settled.keeper)
  pub callers : AllFit (IsBefore settled.first_caller) history

-- what was read of a journal has all of this history
pub record HasRead (ledger : GridLedger) (listener : Replay) (keeping : Keeping) (most_caller : ℕ) (history : List Entry) : Type 0 where
  pub stands : Stands ledger history
  pub shows : Shows listener history
  pub callers : AllFit (AtMost most_caller) history
  pub keeps : Keeps ledger.config history (kept_by keeping)

-- of some history
pub record IsRead (ledger : GridLedger) (listener : Replay) (keeping : Keeping) (most_caller : ℕ) : Type 0 where
  pub history : List Entry
  pub has_read : HasRead ledger listener keeping most_caller history

-- The core stands for the history with entries behind it, in which nothing is open. What keeps its journal has that of all of it, and
-- each of its callers has a number below the first.
pub record Continues (config : HubConfig) (core : HubCore) (keeping : Keeping) (first : ℕ) (history : List Entry) : Type 0 where
  pub made : List Entry
  pub stands : core_stands.Stands core (made ++ history)
  pub keeps : Keeps config (made ++ history) (kept_by keeping)
  pub callers : AllFit (IsBefore first) (made ++ history)
  pub no_slot : NoSlot (made ++ history)
  pub no_request : NoRequest (made ++ history)

-- Whatever history was read, the hub goes on from it: by its core, by what keeps its journal, and by its first number.
pub record GoesOnFrom (ledger : GridLedger) (listener : Replay) (keeping : Keeping) (most_caller : ℕ) (core : HubCore) (now : Keeping) (first : ℕ) : Type 0 where
  pub of : (history : List Entry) → HasRead ledger listener keeping most_caller history → Continues ledger.config core now first history

-- By the fault why there is no hub: what keeps the journal failed; the moment, or the last one of the history, is past the last one that
-- there is; or a caller had the greatest number already. Memory may lack at any time.
abbrev pub WhyNot : GridLedger → Replay → Keeping → ℕ → ℕ → Keeping → OpeningFault → Type 0
WhyNot ledger listener keeping most_caller at now fault.Unkept = Rose (faults_of keeping) (faults_of now)
WhyNot ledger listener keeping most_caller at now fault.Late = (history : List Entry) → HasRead ledger listener keeping most_caller history → LAST_MOMENT < max at (clock history)
WhyNot ledger listener keeping most_caller at now fault.Numbers = (history : List Entry) → HasRead ledger listener keeping most_caller history → 2 ^ 64 - 1 ≤ most_caller
WhyNot ledger listener keeping most_caller at now fault.Memory = Unit {0}
