use Rattle.std.proofs.lemmas.Result.{err_from_is_err_and}
use Rattle.std.proofs.Common.{◌≡◌, ◌+◌, ◌∙◌, ap, subst, sym, arith}
use Rattle.std.specs.Prelude.{Ok}
use Rattle.grid_types.specs.declared.config.HubConfig.{HubConfig}
use Rattle.grid_ledger.specs.declared.ledger.GridLedger.{GridLedger}
use Rattle.grid_ledger.specs.LedgerStands.{Stands}
use Rattle.grid_types.specs.History.{next_node}
use Rattle.grid_opening.specs.Settling.{Always, Clears, EachSlot, OnNode}
use Rattle.grid_opening.proofs.GoesLemmas.{done, went_both, went_err, went_none, went_so}
use Rattle.grid_opening.proofs.SlotLemmas.{OnNodesBelow, clears_both, clears_nothing, clears_so, one_node_more, each_listed, nodes_below}
use Rattle.grid_opening.proofs.opening.Opening.at_each_slot.Goals as goal

pub loop-node-init : goal.loop-node-init
loop-node-init g c = went_none g.K.Keeper.kept g.L.Listener.heard g.K.Keeper.faults Always c.args.at.0 (Clears c.args.work c.args.at.0 (OnNodesBelow c.config-first.result.first_node c.config-first.result.first_node)) c.args.self.now
    (λ H h t. clears_nothing c.args.work c.args.at.0 (OnNodesBelow c.config-first.result.first_node c.config-first.result.first_node) H (λ s on. absurd (omega (arith, on.0, on.1))))

pub loop-node-preserved : goal.loop-node-preserved
loop-node-preserved g c =
    let a = c.args in let n = c.loop-node.node in
    went_both g.K.Keeper.kept g.L.Listener.heard g.K.Keeper.faults a.at.0 (Clears a.work a.at.0 (OnNodesBelow c.config-first.result.first_node n)) (Clears a.work a.at.0 (OnNode n)) (Clears a.work a.at.0 (OnNodesBelow c.config-first.result.first_node (n + 1)))
    a.self.now c.loop-node.self c.at_slots_of.new.self done (Ok done) c.loop-node.invariant c.in_ok-at_slots_of.ensures
    (λ H G F p q. clears_both a.work a.at.0 _ _ _ (one_node_more c.config-first.result.first_node n) H G F p q)

pub returns-in_err-at_slots_of : goal.returns-in_err-at_slots_of
returns-in_err-at_slots_of g c =
    let p = err_from_is_err_and c.from_residual.result c.from_residual.ensures.1 in rw (p.1, p.2) (went_err g.K.Keeper.kept g.L.Listener.heard g.K.Keeper.faults Always Always c.args.at.0 (Clears c.args.work c.args.at.0 (OnNodesBelow (c.config-first.result).first_node c.loop-node.node)) (Clears c.args.work c.args.at.0 (OnNode c.loop-node.node)) (Clears c.args.work c.args.at.0 EachSlot) c.args.self.now c.loop-node.self c.at_slots_of.new.self done c.in_err-at_slots_of.field-0.0 c.loop-node.invariant c.in_err-at_slots_of.ensures)

pub returns : goal.returns
returns g c =
    let a = c.args in
    let config : c.config-first.result ≡ a.self.now.ledger.config = c.config-first.ensures ∙ ap (λ (l : GridLedger). l.config) c.ledger.ensures in
    went_so g.K.Keeper.kept g.L.Listener.heard g.K.Keeper.faults Always Always a.at.0 (Clears a.work a.at.0 (OnNodesBelow c.config-first.result.first_node c.loop-node.node)) (Clears a.work a.at.0 EachSlot) a.self.now c.loop-node.self (Ok done) c.loop-node.invariant
    (λ H h t. t)
    (λ H G h k same p. clears_so a.work a.at.0 _ EachSlot H G p (λ s on. nodes_below c.config-first.result.first_node c.next_node-next.result c.loop-node.node s (omega (arith, c.loop-node-test.false))
    (each_listed c.history_laws.ensures a.work c.config-first.result c.loop-node.self.ledger G H s c.next_node-next.result k.stands (same ∙ sym config)
    (c.next_node-next.ensures.of H (subst (λ (l : GridLedger). Stands l H) (sym c.ledger-2.ensures) h.stands) ∙ ap (λ (d : HubConfig). next_node d H) (ap (λ (l : GridLedger). l.config) c.ledger-2.ensures ∙ sym config)) p.passes.same_nodes)))
