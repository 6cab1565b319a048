-- What it is for a ledger to stand for a history.
use Rattle.std.specs.Prelude.{◌≡◌, ℕ, ◌≤◌, true, List, ◌∷◌, length}
use Rattle.grid_types.specs.declared.entry.Entry.{Entry}
use Rattle.grid_types.specs.declared.entry.Change.{Change}
use Rattle.grid_types.specs.declared.entry.Change.TheVariants as change
use Rattle.grid_types.specs.declared.limits.TheConstants.{MOST_SLOTS}
use Rattle.grid_types.specs.Nodes.{stereotypes}
use Rattle.grid_types.specs.History.{clock, next_node, next_request}
use Rattle.grid_types.specs.Legal.{legal}
use Rattle.grid_types.specs.Tables.{entry}
use Rattle.node_registry.specs.Table as of_node
use Rattle.reservation.specs.Table as of_slot
use Rattle.session_queue.specs.Table as of_request
use Rattle.session_map.specs.Table as of_session
use Rattle.grid_ledger.specs.declared.ledger.GridLedger.{GridLedger}

-- The tables of the ledger stand for a legal history, and so do the next numbers and the clock.
pub record Stands (ledger : GridLedger) (H : List Entry) : Type 0 where
  pub nodes_stand : of_node.Stands ledger.nodes H
  pub slots_stand : of_slot.Stands ledger.slots H
  pub requests_stand : of_request.Stands ledger.requests H
  pub sessions_stand : of_session.Stands ledger.sessions H
  pub counts_nodes : ledger.next_node ≡ next_node ledger.config H
  pub counts_requests : ledger.next_request ≡ next_request ledger.config H
  pub tells_clock : ledger.clock.0 ≡ clock H
  pub is_legal : legal ledger.config H ≡ true

-- the fact holds of each history that the ledger stands for
pub record LedgerTells (ledger : GridLedger) (fact : List Entry → Type 0) : Type 0 where
  pub of : (H : List Entry) → Stands ledger H → fact H

-- for whatever history the old ledger stands, the new one stands for it with this change after it, where that is legal
pub record Notes (old new : GridLedger) (caller : ℕ) (change : Change) : Type 0 where
  pub same_config : new.config ≡ old.config
  pub after : (H : List Entry) → Stands old H → legal old.config (entry caller change ∷ H) ≡ true → Stands new (entry caller change ∷ H)

-- for whatever history the old ledger stands, the new one stands for it
pub record Keeps (old new : GridLedger) : Type 0 where
  pub same_config : new.config ≡ old.config
  pub still : (H : List Entry) → Stands old H → Stands new H

-- What a listener has heard goes on by this change, behind each history that the ledger stands for and that the change may
-- follow.
pub record Hears {L : Type 0} (heard : L → List Entry → Type 0) (old new : L) (ledger : GridLedger) (caller : ℕ) (change : Change) : Type 0 where
  pub goes : (H : List Entry) → Stands ledger H → legal ledger.config (entry caller change ∷ H) ≡ true → heard old H → heard new (entry caller change ∷ H)

-- no entry has a caller of a greater number
abbrev pub AtMost : ℕ → Entry → Type 0
AtMost most e = e.caller ≤ most

-- what a ledger needs of a change that it notes: a node has no more slots than it may have
abbrev pub MayNote : Change → Type 0
MayNote (change.Registered n r at) = length (stereotypes r.groups) ≤ MOST_SLOTS
MayNote c = Unit {0}
