use Rattle.std.proofs.Common.{take, drop, arith, sym, subst, take-append-drop}
use Rattle.std.proofs.lemmas.Grind.{common_steps}
use Rattle.grid_outside.specs.Told.{Gains}
use Rattle.grid_outside.proofs.StreamLemmas.{gains_next, left_over}
use Rattle.grid_outside.proofs.writing.write_all.Goals as goal

pub returns-in-Err-clause-err : goal.returns-in-Err-clause-err
returns-in-Err-clause-err g c =
    let bytes = c.args.bytes.now in
    let done = c.pieces.done in
    record {
      front = take done bytes;
      unwritten = drop done bytes;
      are = take-append-drop done bytes;
      some = left_over done bytes (omega arith);
      gains = subst (λ t. Gains (g.K.Sink.view c.args.output.now).taken t (take done bytes)) (sym c.in-Err.ensures.err) c.pieces.invariant.taken;
    }

pub pieces-preserved : goal.pieces-preserved
pieces-preserved g c = record {
  taken = gains_next _ _ _ c.pieces.done c.in-Ok.count c.args.bytes.now c.pieces.invariant.taken c.in-Ok.ensures.taken;
  within = let count = c.in-Ok.ensures.count in grind (arith, common_steps, count);
  faults = omega (arith, c.in-Ok.ensures.cause.later);
}
