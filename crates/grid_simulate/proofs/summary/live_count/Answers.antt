use Rattle.std.proofs.Common.{arith}
use Rattle.grid_types.specs.History.{history_of}
use Rattle.grid_simulate.proofs.CountLemmas.{bindings_more}
use Rattle.grid_simulate.proofs.summary.live_count.Goals as goal

pub loop-entry-preserved : goal.loop-entry-preserved
loop-entry-preserved c =
    let step = bindings_more (history_of c.args.journal.now) c.args.journal.now c.loop-entry.entry-index c.entry-item.result c.loop-entry-test.true c.entry-item.is in
    record {
      counted = omega (arith, step, c.live_in-more.ensures.value, c.loop-entry.invariant.counted);
      few = omega (arith, c.live_in-more.ensures.most, c.loop-entry.invariant.few);
    }
