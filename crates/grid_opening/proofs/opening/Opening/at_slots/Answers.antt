use Rattle.std.proofs.lemmas.Result.{err_from_is_err_and}
use Rattle.std.proofs.Common.{◌+◌, arith}
use Rattle.std.specs.Prelude.{Ok}
use Rattle.grid_types.specs.Slots.{slot_at}
use Rattle.grid_opening.specs.Settling.{Always, Clears, IsSlot, OnNode}
use Rattle.grid_opening.proofs.GoesLemmas.{done, went_both, went_err, went_none, went_so}
use Rattle.grid_opening.proofs.SlotLemmas.{OnNodeBelow, clears_both, clears_nothing, clears_so, one_slot_more, slot_below, slot_of_node}
use Rattle.grid_opening.proofs.opening.Opening.at_slots.Goals as goal

pub loop-index-init : goal.loop-index-init
loop-index-init g c = went_none g.K.Keeper.kept g.L.Listener.heard g.K.Keeper.faults Always c.args.at.0 (Clears c.args.work c.args.at.0 (OnNodeBelow c.args.node 0)) c.args.self.now
    (λ H h t. clears_nothing c.args.work c.args.at.0 (OnNodeBelow c.args.node 0) H (λ s on. absurd (omega (arith, on.1))))

pub loop-index-preserved : goal.loop-index-preserved
loop-index-preserved g c =
    let a = c.args in let i = c.loop-index.index in
    went_both g.K.Keeper.kept g.L.Listener.heard g.K.Keeper.faults a.at.0 (Clears a.work a.at.0 (OnNodeBelow a.node i)) (Clears a.work a.at.0 (IsSlot (slot_at a.node i))) (Clears a.work a.at.0 (OnNodeBelow a.node (i + 1)))
    a.self.now c.loop-index.self c.at_slot.new.self done (Ok done) c.loop-index.invariant c.in_ok-at_slot.ensures
    (λ H G F p q. clears_both a.work a.at.0 _ _ _ (one_slot_more a.node i) H G F p q)

pub returns-in_err-at_slot : goal.returns-in_err-at_slot
returns-in_err-at_slot g c =
    let p = err_from_is_err_and c.from_residual.result c.from_residual.ensures.1 in rw (p.1, p.2) (went_err g.K.Keeper.kept g.L.Listener.heard g.K.Keeper.faults Always Always c.args.at.0 (Clears c.args.work c.args.at.0 (OnNodeBelow c.args.node c.loop-index.index)) (Clears c.args.work c.args.at.0 (IsSlot (slot_at c.args.node c.loop-index.index))) (Clears c.args.work c.args.at.0 (OnNode c.args.node)) c.args.self.now c.loop-index.self c.at_slot.new.self done c.in_err-at_slot.field-0.0 c.loop-index.invariant c.in_err-at_slot.ensures)

pub returns : goal.returns
returns g c =
    let a = c.args in
    went_so g.K.Keeper.kept g.L.Listener.heard g.K.Keeper.faults Always Always a.at.0 (Clears a.work a.at.0 (OnNodeBelow a.node c.loop-index.index)) (Clears a.work a.at.0 (OnNode a.node)) a.self.now c.loop-index.self (Ok done) c.loop-index.invariant
    (λ H h t. t)
    (λ H G h k same p. clears_so a.work a.at.0 _ (OnNode a.node) H G p (λ s on. slot_below a.node c.loop-index.index s (omega (arith, c.loop-index-test.false)) (slot_of_node c.history_laws.ensures a.work c.loop-index.self.ledger.config G a.node s k.stands.is_legal on)))
