use Rattle.std.proofs.Common.{arith}
use Rattle.grid_ledger.proofs.OpenLemmas.{close_more}
use Rattle.grid_ledger.proofs.ledger.GridLedger.are_close_on.Goals as goal

pub loop-index-init : goal.loop-index-init
loop-index-init c = record { of = λ H s slot same below. absurd (omega (arith, below)) }

pub loop-index-preserved : goal.loop-index-preserved
loop-index-preserved c = record {
  of = λ H s. close_more H c.args.node c.loop-index.index c.is_open.result (c.is_open.ensures.of H s) c.if-is_open.false (c.loop-index.invariant.of H s);
}

pub returns-clause-close : goal.returns-clause-close
returns-clause-close c = λ yes. record { of = λ H s slot same below. c.loop-index.invariant.of H s slot same (omega (arith, below, c.loop-index-test.false)) }
