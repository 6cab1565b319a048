use Rattle.std.proofs.lemmas.Result.{err_from_is_err_and}
use Rattle.std.proofs.Common.{◌≡◌, ◌+◌, ◌∙◌, ap, subst, sym, arith}
use Rattle.std.specs.Prelude.{Ok}
use Rattle.grid_types.specs.declared.config.HubConfig.{HubConfig}
use Rattle.grid_ledger.specs.declared.ledger.GridLedger.{GridLedger}
use Rattle.grid_ledger.specs.LedgerStands.{Stands}
use Rattle.grid_types.specs.History.{next_request}
use Rattle.grid_opening.specs.Settling.{Always, EachRequest, IsRequest, Works}
use Rattle.grid_opening.proofs.GoesLemmas.{done, went_both, went_err, went_none, went_so}
use Rattle.grid_opening.proofs.SlotLemmas.{Between, each_request_listed, one_request_more, works_both, works_nothing, works_so}
use Rattle.grid_opening.proofs.opening.Opening.at_each_request.Goals as goal

pub loop-request-init : goal.loop-request-init
loop-request-init g c =
    let first = c.config-first.result.first_request in
    went_none g.K.Keeper.kept g.L.Listener.heard g.K.Keeper.faults Always c.args.at.0 (Works c.args.work c.args.at.0 (Between first first)) c.args.self.now
    (λ H h t. works_nothing c.args.work c.args.at.0 (Between first first) H (λ r on. omega (arith, on.0, on.1)))

pub loop-request-preserved : goal.loop-request-preserved
loop-request-preserved g c =
    let a = c.args in let r = c.loop-request.request in let first = c.config-first.result.first_request in
    went_both g.K.Keeper.kept g.L.Listener.heard g.K.Keeper.faults a.at.0 (Works a.work a.at.0 (Between first r)) (Works a.work a.at.0 (IsRequest r)) (Works a.work a.at.0 (Between first (r + 1)))
    a.self.now c.loop-request.self c.at_request.new.self done (Ok done) c.loop-request.invariant c.in_ok-at_request.ensures
    (λ H G F p q. works_both a.work a.at.0 _ _ _ (one_request_more first r) H G F p q)

pub returns-in_err-at_request : goal.returns-in_err-at_request
returns-in_err-at_request g c =
    let p = err_from_is_err_and c.from_residual.result c.from_residual.ensures.1 in rw (p.1, p.2) (went_err g.K.Keeper.kept g.L.Listener.heard g.K.Keeper.faults Always Always c.args.at.0 (Works c.args.work c.args.at.0 (Between c.config-first.result.first_request c.loop-request.request)) (Works c.args.work c.args.at.0 (IsRequest c.loop-request.request)) (Works c.args.work c.args.at.0 EachRequest) c.args.self.now c.loop-request.self c.at_request.new.self done c.in_err-at_request.field-0.0 c.loop-request.invariant c.in_err-at_request.ensures)

pub returns : goal.returns
returns g c =
    let a = c.args in let first = c.config-first.result.first_request in
    let config : c.config-first.result ≡ a.self.now.ledger.config = c.config-first.ensures ∙ ap (λ (l : GridLedger). l.config) c.ledger.ensures in
    went_so g.K.Keeper.kept g.L.Listener.heard g.K.Keeper.faults Always Always a.at.0 (Works a.work a.at.0 (Between first c.loop-request.request)) (Works a.work a.at.0 EachRequest) a.self.now c.loop-request.self (Ok done) c.loop-request.invariant
    (λ H h t. t)
    (λ H G h k same p. works_so a.work a.at.0 _ EachRequest H G p (λ no_new r on. each_request_listed c.history_laws.ensures c.loop-request.self.ledger c.config-first.result G H c.next_request-next.result c.loop-request.request r
    k.stands (same ∙ sym config) (c.next_request-next.ensures.of H (subst (λ (l : GridLedger). Stands l H) (sym c.ledger-2.ensures) h.stands) ∙ ap (λ (d : HubConfig). next_request d H) (ap (λ (l : GridLedger). l.config) c.ledger-2.ensures ∙ sym config)) no_new (omega (arith, c.loop-request-test.false))))
