use Rattle.std.proofs.Common.{◌≡◌, ℕ, sym, ◌∙◌, arith}
use Rattle.std.specs.Prelude.{true}
use Rattle.grid_types.specs.Requests.{place}
use Rattle.session_queue.specs.Table.{is_gone}
use Rattle.grid_ledger.proofs.OpenLemmas.{none_left, one_more}
use Rattle.grid_ledger.proofs.ledger.GridLedger.has_no_request.Goals as goal

pub loop-request-init : goal.loop-request-init
loop-request-init c = record { of = λ H s r least below. absurd (omega (arith, least, below)) }

pub loop-request-preserved : goal.loop-request-preserved
loop-request-preserved c = record {
  of = λ H s. one_more (λ (r : ℕ). is_gone (place H r) ≡ true) c.args.self.now.config.first_request c.loop-request.request
      (sym (c.is_over.ensures.of H s) ∙ c.if-not-is_over.false) (c.loop-request.invariant.of H s);
}

pub returns-clause-none : goal.returns-clause-none
returns-clause-none c = λ yes. record {
  of = λ H s. none_left c.history_laws.ensures c.args.self.now H s
      (λ r least below. c.loop-request.invariant.of H s r least (omega (arith, below, s.counts_requests, c.loop-request-test.false)));
}
