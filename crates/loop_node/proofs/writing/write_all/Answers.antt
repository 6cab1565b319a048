use Rattle.std.proofs.Common.{[], arith, take, drop, take-append-drop}
use Rattle.std.proofs.lemmas.Grind.{common_steps}
use Rattle.loop_node.proofs.WritingLemmas.{gains_next, same_given}
use Rattle.loop_node.proofs.writing.write_all.Goals as goal

pub pieces-preserved : goal.pieces-preserved
pieces-preserved g c =
    let before = g.L.Link.view c.write.new.self in
    let moved = c.pieces.invariant.moved in
    record {
      moved = record {
        given = same_given _ _ _ [] moved.given c.in-Ok.ensures.given;
        taken = gains_next _ _ _ c.pieces.done c.in-Ok.count c.args.bytes.now moved.taken c.in-Ok.ensures.taken;
        later = record {
          ends = let x = moved.later.ends in let y = c.in-Ok.ensures.ends in omega arith;
          reads = let x = moved.later.reads in let y = c.in-Ok.ensures.read_faults in omega arith;
          writes = let x = moved.later.writes in let y = c.in-Ok.ensures.cause.later in omega arith;
        };
      };
      within = let count = c.in-Ok.ensures.count in grind (arith, common_steps, count);
    }

pub returns-in-Err-clause-front : goal.returns-in-Err-clause-front
returns-in-Err-clause-front g c =
    let moved = c.pieces.invariant.moved in
    let bytes = c.args.bytes.now in
    let done = c.pieces.done in
    record {
      front = take done bytes;
      unwritten = drop done bytes;
      are = take-append-drop done bytes;
      moved = record {
        given = same_given _ _ _ [] moved.given c.in-Err.ensures.given;
        taken = same_given _ _ _ (take done bytes) moved.taken c.in-Err.ensures.err;
        later = record {
          ends = let x = moved.later.ends in let y = c.in-Err.ensures.ends in omega arith;
          reads = let x = moved.later.reads in let y = c.in-Err.ensures.read_faults in omega arith;
          writes = let x = moved.later.writes in let y = c.in-Err.ensures.cause.later in omega arith;
        };
      };
    }
