use Rattle.std.proofs.Common.{ℕ, sym, subst, arith}
use Rattle.grid_types.specs.History.{history_of}
use Rattle.grid_check.specs.Writes.{WriteEnds}
use Rattle.grid_check.proofs.WriteLemmas.{one_more, all_of_them, stops, stops_at_head}
use Rattle.grid_check.proofs.writing.write_journal.Goals as goal

pub returns-in-Err : goal.returns-in-Err
returns-in-Err g c =
    let old = g.K.Sink.view c.args.output.now in
    let new = g.K.Sink.view c.put_head.new.output in
    subst (λ (s : ℕ). WriteEnds c.args.config.now (history_of c.args.entries.now) old new s) (sym c.status_of.ensures)
    (stops_at_head c.args.config.now (history_of c.args.entries.now) c.in-Err.why old new c.in-Err.ensures.stopped)

pub returns-in-Err-put_entry : goal.returns-in-Err-put_entry
returns-in-Err-put_entry g c =
    let old = g.K.Sink.view c.args.output.now in
    let mid = g.K.Sink.view c.loop-entry.output in
    let new = g.K.Sink.view c.put_entry.new.output in
    subst (λ (s : ℕ). WriteEnds c.args.config.now (history_of c.args.entries.now) old new s) (sym c.status_of-in-Err-put_entry.ensures)
    (stops c.args.config.now c.args.entries.now c.loop-entry.entry-index c.entry-item.result c.in-Err-put_entry.why old mid new
    (omega (arith, c.loop-entry-test.true)) c.entry-item.is c.loop-entry.invariant.so_far c.in-Err-put_entry.ensures.stopped)

pub loop-entry-preserved : goal.loop-entry-preserved
loop-entry-preserved g c =
    let old = g.K.Sink.view c.args.output.now in
    let mid = g.K.Sink.view c.loop-entry.output in
    let new = g.K.Sink.view c.put_entry.new.output in
    record {
      so_far = one_more c.args.config.now c.args.entries.now c.loop-entry.entry-index c.entry-item.result old mid new
          (omega (arith, c.loop-entry-test.true)) c.entry-item.is c.loop-entry.invariant.so_far c.in_default-put_entry.ensures.ok;
    }

pub returns : goal.returns
returns g c =
    let old = g.K.Sink.view c.args.output.now in
    let new = g.K.Sink.view c.loop-entry.output in
    all_of_them c.args.config.now c.args.entries.now c.loop-entry.entry-index old new (omega (arith, c.loop-entry-test.false)) c.loop-entry.invariant.so_far
