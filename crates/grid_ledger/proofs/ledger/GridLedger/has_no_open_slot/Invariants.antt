use Rattle.std.proofs.Common.{ℕ, ◌≤◌, ◌<◌}
use Rattle.grid_types.specs.declared.limits.TheConstants.{MOST_SLOTS}
use Rattle.grid_ledger.specs.LedgerStands.{LedgerTells}
use Rattle.grid_ledger.specs.Open.{IsCloseOn}
use Rattle.grid_ledger.proofs.ledger.GridLedger.has_no_open_slot.Given as goal

-- no slot of the nodes so far is open
abbrev pub invariant-loop-node : goal.invariant-loop-node
invariant-loop-node l = LedgerTells l.self (λ H. (n : ℕ) → l.self.config.first_node ≤ n → n < l.node → IsCloseOn H n MOST_SLOTS)
