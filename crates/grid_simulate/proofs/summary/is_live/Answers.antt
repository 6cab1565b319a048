use Rattle.std.proofs.Common.{Bool, take, sym, ap, ◌∙◌}
use Rattle.std.specs.Prelude.{Option}
use Rattle.grid_types.specs.declared.names.SlotId.{SlotId}
use Rattle.grid_types.specs.History.{history_of}
use Rattle.grid_types.specs.Bindings.{bound_slot}
use Rattle.grid_simulate.specs.Running.{live_by, slot_by}
use Rattle.grid_simulate.proofs.CountLemmas.{live_more, slot_more}
use Rattle.grid_simulate.proofs.summary.is_live.Goals as goal

pub loop-entry-preserved : goal.loop-entry-preserved
loop-entry-preserved c =
    let e = c.entry-item.result in
    let before = bound_slot (history_of (take c.loop-entry.entry-index c.args.journal.now)) c.args.binding in
    let live = live_more c.args.journal.now c.loop-entry.entry-index e c.args.binding c.loop-entry-test.true c.entry-item.is in
    let slot = slot_more c.args.journal.now c.loop-entry.entry-index e c.args.binding c.loop-entry-test.true c.entry-item.is in
    record {
      live = c.live_after-live.ensures ∙ ap (λ (s : Option SlotId). live_by e.change c.args.binding s c.loop-entry.live) c.loop-entry.invariant.slot
          ∙ ap (λ (l : Bool). live_by e.change c.args.binding before l) c.loop-entry.invariant.live ∙ sym live;
      slot = c.slot_after-slot.ensures ∙ ap (λ (s : Option SlotId). slot_by e.change c.args.binding s) c.loop-entry.invariant.slot ∙ sym slot;
    }
