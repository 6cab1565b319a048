use Rattle.std.proofs.Common.{ℕ, ◌≤◌, ◌<◌}
use Rattle.grid_ledger.specs.LedgerStands.{LedgerTells}
use Rattle.hub_store.specs.Stores.{IsUnlisted}
use Rattle.hub_store.proofs.over.has_no_node.Given as goal

-- none of the nodes so far is listed
abbrev pub invariant-loop-node : goal.invariant-loop-node
invariant-loop-node l = LedgerTells l.ledger (λ H. (n : ℕ) → l.first ≤ n → n < l.node → IsUnlisted H n)
