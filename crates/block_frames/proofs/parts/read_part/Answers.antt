use Rattle.std.proofs.Common.{arith}
use Rattle.block_frames.proofs.ReadLemmas.{ended_part, on_err, some_behind}
use Rattle.block_frames.proofs.parts.read_part.Goals as goal

pub returns-in_err-count-clause-broken : goal.returns-in_err-count-clause-broken
returns-in_err-count-clause-broken g c =
    on_err c.from_residual.result (some_behind c.pieces.bytes.items c.args.left.now c.pieces.left _ _ _ c.pieces.invariant.reads c.in_err-count.ensures.broken)

pub returns-then-count-eq0-clause-reads : goal.returns-then-count-eq0-clause-reads
returns-then-count-eq0-clause-reads g c =
    let some = c.room_for.ensures.some in
    let missing = c.room_for.ensures.missing in
    let left = c.room_for.ensures.left in
    ended_part c.args.wanted c.args.left.now c.pieces.left c.in_ok-count.count c.room_for.result c.pieces.bytes.items c.read_piece.new.bytes.items _ _ _
    c.pieces.invariant c.in_ok-count.ensures.reads c.if-count-eq0.true (omega (arith, some, missing, c.len-in-pieces.ensures)) (omega (arith, some, left))
