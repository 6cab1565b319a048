use Rattle.grid_types.specs.declared.limits.TheConstants.{MOST_SLOTS}
use Rattle.grid_ledger.proofs.OpenLemmas.{close_unused}
use Rattle.grid_ledger.proofs.ledger.GridLedger.is_close_on.Goals as goal

pub returns-then-not-has_slot_in_use-clause-close : goal.returns-then-not-has_slot_in_use-clause-close
returns-then-not-has_slot_in_use-clause-close c = λ yes. record {
  of = λ H s. close_unused c.history_laws.ensures c.args.self.now.config H c.args.node MOST_SLOTS c.has_slot_in_use.result s.is_legal
      (c.has_slot_in_use.ensures.of c.args.self.now.config H s.slots_stand s.is_legal) c.if-not-has_slot_in_use.true;
}
