use Rattle.std.proofs.Common.{ℕ, arith}
use Rattle.grid_types.specs.declared.limits.TheConstants.{MOST_SLOTS}
use Rattle.grid_ledger.specs.Open.{IsCloseOn}
use Rattle.grid_ledger.proofs.OpenLemmas.{none_open, one_more}
use Rattle.grid_ledger.proofs.ledger.GridLedger.has_no_open_slot.Goals as goal

pub loop-node-init : goal.loop-node-init
loop-node-init c = record { of = λ H s n least below. absurd (omega (arith, least, below)) }

pub loop-node-preserved : goal.loop-node-preserved
loop-node-preserved c = record {
  of = λ H s. one_more (λ (n : ℕ). IsCloseOn H n MOST_SLOTS) c.args.self.now.config.first_node c.loop-node.node
      ((c.is_close_on.ensures.close c.if-not-is_close_on.false).of H s) (c.loop-node.invariant.of H s);
}

pub returns-clause-none : goal.returns-clause-none
returns-clause-none c = λ yes. record {
  of = λ H s. none_open c.history_laws.ensures c.args.self.now.config H s.is_legal
      (λ n least below. c.loop-node.invariant.of H s n least (omega (arith, below, s.counts_nodes, c.loop-node-test.false)));
}
