use Rattle.grid_ledger.specs.LedgerStands.{LedgerTells}
use Rattle.grid_ledger.specs.Open.{IsCloseOn}
use Rattle.grid_ledger.proofs.ledger.GridLedger.are_close_on.Given as goal

-- none of the slots so far is open
abbrev pub invariant-loop-index : goal.invariant-loop-index
invariant-loop-index l = LedgerTells l.self (λ H. IsCloseOn H l.node l.index)
