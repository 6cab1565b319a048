use Rattle.std.proofs.Common.{◌≡◌, ℕ, ◌≤◌, ◌<◌}
use Rattle.std.specs.Prelude.{true}
use Rattle.grid_types.specs.Requests.{place}
use Rattle.session_queue.specs.Table.{is_gone}
use Rattle.grid_ledger.specs.LedgerStands.{LedgerTells}
use Rattle.grid_ledger.proofs.ledger.GridLedger.has_no_request.Given as goal

-- none of the requests so far is left
abbrev pub invariant-loop-request : goal.invariant-loop-request
invariant-loop-request l = LedgerTells l.self (λ H. (r : ℕ) → l.self.config.first_request ≤ r → r < l.request → is_gone (place H r) ≡ true)
