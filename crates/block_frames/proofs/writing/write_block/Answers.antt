use Rattle.std.proofs.Common.{◌≡◌, ℕ, List, ◌++◌, length, sym, ap, subst, ◌∙◌, arith}
use Rattle.block_frames.specs.Frames.{length_bytes}
use Rattle.grid_outside.specs.Told.{TookFront}
use Rattle.block_frames.proofs.ReadLemmas.{err_of, front_behind, front_more, ok_of}
use Rattle.block_frames.proofs.writing.write_block.Goals as goal

pub returns-then-is_err-clause-broken : goal.returns-then-is_err-clause-broken
returns-then-is_err-clause-broken g c =
    let same : c.in-Ok.size ≡ length c.args.bytes.now = omega (arith, c.in-Ok.ensures) in
    let spelled = ap (λ (bs : List ℕ). bs ++ c.args.bytes.now) (c.to_be_bytes-length.ensures ∙ ap length_bytes same) in
    subst (λ (bs : List ℕ). TookFront (g.K.Sink.view c.args.output.now).taken (g.K.Sink.view c.write_all.new.output).taken bs) spelled
    (front_more _ _ c.to_be_bytes-length.result c.args.bytes.now (err_of c.write_all.result (sym c.if-is_err.ensures.value) c.write_all.ensures.err))

pub returns-in-Err-clause-broken : goal.returns-in-Err-clause-broken
returns-in-Err-clause-broken g c =
    let same : c.in-Ok.size ≡ length c.args.bytes.now = omega (arith, c.in-Ok.ensures) in
    let spelled = ap (λ (bs : List ℕ). bs ++ c.args.bytes.now) (c.to_be_bytes-length.ensures ∙ ap length_bytes same) in
    subst (λ (bs : List ℕ). TookFront (g.K.Sink.view c.args.output.now).taken (g.K.Sink.view c.write_all-2.new.output).taken bs) spelled
    (front_behind _ _ _ c.to_be_bytes-length.result c.args.bytes.now (ok_of c.write_all.result (sym c.if-is_err.ensures.value) c.write_all.ensures.ok) c.in-Err.ensures.err)
