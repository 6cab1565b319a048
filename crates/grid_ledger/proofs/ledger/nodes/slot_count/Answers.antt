use Rattle.grid_ledger.proofs.SlotLemmas.{groups_more, added}
use Rattle.grid_ledger.proofs.ledger.nodes.slot_count.Goals as goal

pub loop-group-preserved : goal.loop-group-preserved
loop-group-preserved c =
    added _ _ _ _ _ (groups_more c.args.groups.now c.loop-group.group-index c.group-item.result c.loop-group-test.true c.group-item.is) c.loop-group.invariant (rw c.from.ensures at c.saturating_add-count.ensures)
