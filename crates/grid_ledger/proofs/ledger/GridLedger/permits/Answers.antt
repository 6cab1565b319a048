use Rattle.std.proofs.Common.{◌≡◌, List, sym, subst}
use Rattle.grid_types.specs.declared.entry.Change.{Change}
use Rattle.grid_types.specs.declared.entry.Entry.{Entry}
use Rattle.grid_types.specs.Permitted.{permitted}
use Rattle.grid_ledger.specs.LedgerStands.{LedgerTells}
use Rattle.grid_ledger.proofs.ledger.GridLedger.permits.Goals as goal

pub returns-in-Registered-clause-exact : goal.returns-in-Registered-clause-exact
returns-in-Registered-clause-exact c =
    subst (λ (x : Change). LedgerTells c.args.self.now (λ (H : List Entry). c.permits_registered.result ≡ permitted c.args.self.now.config H c.args.caller x)) (sym c.in-Registered.is)
    (c.permits_registered.ensures.exact c.args.caller)

pub returns-in-Beaten-clause-exact : goal.returns-in-Beaten-clause-exact
returns-in-Beaten-clause-exact c =
    subst (λ (x : Change). LedgerTells c.args.self.now (λ (H : List Entry). c.permits_beaten.result ≡ permitted c.args.self.now.config H c.args.caller x)) (sym c.in-Beaten.is)
    (c.permits_beaten.ensures c.args.caller)

pub returns-in-Draining-clause-exact : goal.returns-in-Draining-clause-exact
returns-in-Draining-clause-exact c =
    subst (λ (x : Change). LedgerTells c.args.self.now (λ (H : List Entry). c.permits_draining.result ≡ permitted c.args.self.now.config H c.args.caller x)) (sym c.in-Draining.is)
    (c.permits_draining.ensures c.args.caller)

pub returns-in-Removed-clause-exact : goal.returns-in-Removed-clause-exact
returns-in-Removed-clause-exact c =
    subst (λ (x : Change). LedgerTells c.args.self.now (λ (H : List Entry). c.permits_removed.result ≡ permitted c.args.self.now.config H c.args.caller x)) (sym c.in-Removed.is)
    (c.permits_removed.ensures c.args.caller)

pub returns-in-Lapsed-clause-exact : goal.returns-in-Lapsed-clause-exact
returns-in-Lapsed-clause-exact c =
    subst (λ (x : Change). LedgerTells c.args.self.now (λ (H : List Entry). c.permits_lapsed.result ≡ permitted c.args.self.now.config H c.args.caller x)) (sym c.in-Lapsed.is)
    (c.permits_lapsed.ensures c.args.caller)

pub returns-in-Queued-clause-exact : goal.returns-in-Queued-clause-exact
returns-in-Queued-clause-exact c =
    subst (λ (x : Change). LedgerTells c.args.self.now (λ (H : List Entry). c.permits_queued.result ≡ permitted c.args.self.now.config H c.args.caller x)) (sym c.in-Queued.is)
    (c.permits_queued.ensures c.args.caller)

pub returns-in-Reserved-clause-exact : goal.returns-in-Reserved-clause-exact
returns-in-Reserved-clause-exact c =
    subst (λ (x : Change). LedgerTells c.args.self.now (λ (H : List Entry). c.permits_reserved.result ≡ permitted c.args.self.now.config H c.args.caller x)) (sym c.in-Reserved.is)
    (c.permits_reserved.ensures c.args.caller)

pub returns-in-TimedOut-clause-exact : goal.returns-in-TimedOut-clause-exact
returns-in-TimedOut-clause-exact c =
    subst (λ (x : Change). LedgerTells c.args.self.now (λ (H : List Entry). c.permits_timed_out.result ≡ permitted c.args.self.now.config H c.args.caller x)) (sym c.in-TimedOut.is)
    (c.permits_timed_out.ensures c.args.caller)

pub returns-in-Cleared-clause-exact : goal.returns-in-Cleared-clause-exact
returns-in-Cleared-clause-exact c =
    subst (λ (x : Change). LedgerTells c.args.self.now (λ (H : List Entry). c.permits_cleared.result ≡ permitted c.args.self.now.config H c.args.caller x)) (sym c.in-Cleared.is)
    (c.permits_cleared.ensures c.args.caller)

pub returns-in-Touched-clause-exact : goal.returns-in-Touched-clause-exact
returns-in-Touched-clause-exact c =
    subst (λ (x : Change). LedgerTells c.args.self.now (λ (H : List Entry). c.permits_touched.result ≡ permitted c.args.self.now.config H c.args.caller x)) (sym c.in-Touched.is)
    (c.permits_touched.ensures c.args.caller)

pub returns-in-Ended-clause-exact : goal.returns-in-Ended-clause-exact
returns-in-Ended-clause-exact c =
    subst (λ (x : Change). LedgerTells c.args.self.now (λ (H : List Entry). c.permits_ended.result ≡ permitted c.args.self.now.config H c.args.caller x)) (sym c.in-Ended.is)
    (c.permits_ended.ensures c.args.caller)

pub returns-in-Suspected-clause-exact : goal.returns-in-Suspected-clause-exact
returns-in-Suspected-clause-exact c =
    subst (λ (x : Change). LedgerTells c.args.self.now (λ (H : List Entry). c.permits_suspected.result ≡ permitted c.args.self.now.config H c.args.caller x)) (sym c.in-Suspected.is)
    (c.permits_suspected.ensures c.args.caller)
