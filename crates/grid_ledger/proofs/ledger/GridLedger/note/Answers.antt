use Rattle.std.proofs.Common.{ℕ}
use Rattle.grid_ledger.specs.LedgerStands.{Notes}
use Rattle.grid_ledger.proofs.NoteLemmas.{ok_at}
use Rattle.grid_ledger.proofs.ledger.GridLedger.note.Goals as goal

pub returns-in-Registered : goal.returns-in-Registered
returns-in-Registered c = rw c.in-Registered.is (ok_at _ (λ (k : ℕ). Notes c.args.self.now _ k _) c.args.caller c.note_registered.ensures)

pub returns-in-Beaten : goal.returns-in-Beaten
returns-in-Beaten c = rw c.in-Beaten.is (c.note_beaten.ensures c.args.caller)

pub returns-in-Draining : goal.returns-in-Draining
returns-in-Draining c = rw c.in-Draining.is (c.note_draining.ensures c.args.caller)

pub returns-in-Removed : goal.returns-in-Removed
returns-in-Removed c = rw c.in-Removed.is (c.note_removed.ensures c.args.caller)

pub returns-in-Lapsed : goal.returns-in-Lapsed
returns-in-Lapsed c = rw c.in-Lapsed.is (c.note_lapsed.ensures c.args.caller)

pub returns-in-TimedOut : goal.returns-in-TimedOut
returns-in-TimedOut c = rw c.in-TimedOut.is (c.note_timed_out.ensures c.args.caller)

pub returns-in-Cleared : goal.returns-in-Cleared
returns-in-Cleared c = rw c.in-Cleared.is (c.note_cleared.ensures c.args.caller)

pub returns-in-Taken : goal.returns-in-Taken
returns-in-Taken c = rw c.in-Taken.is (c.note_taken.ensures c.args.caller)

pub returns-in-Touched : goal.returns-in-Touched
returns-in-Touched c = rw c.in-Touched.is (c.note_touched.ensures c.args.caller)

pub returns-in-Freed : goal.returns-in-Freed
returns-in-Freed c = rw c.in-Freed.is (c.note_freed.ensures c.args.caller)

pub returns-in-Suspected : goal.returns-in-Suspected
returns-in-Suspected c = rw c.in-Suspected.is (c.note_suspected.ensures c.args.caller)
