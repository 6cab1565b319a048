use Rattle.std.proofs.Common.{◌∙◌, arith, refl, take, drop, sym, take-append-drop}
use Rattle.std.proofs.lemmas.Grind.{common_steps}
use Rattle.grid_teams_shared.proofs.LinkLemmas.{gains_next, gains_same, left_over, rose_from, took_none}
use Rattle.grid_teams_shared.proofs.writing.write_all.Goals as goal

pub pieces-init : goal.pieces-init
pieces-init g c = record {
  took = took_none (g.L.Link.view c.args.link.now);
  within = omega arith;
  same = g.met.L.Link.same_refl c.args.link.now;
}

pub pieces-preserved : goal.pieces-preserved
pieces-preserved g c =
    let took = c.pieces.invariant.took in
    let e = c.in-Ok.ensures in
    record {
      took = record {
        given = e.given ∙ took.given;
        taken = gains_next _ _ _ c.pieces.done c.in-Ok.count c.args.bytes.now took.taken e.taken;
        read_faults = e.read_faults ∙ took.read_faults;
        write_faults = let x = took.write_faults in let y = e.cause.later in omega (arith, x, y);
        ends = e.ends ∙ took.ends;
      };
      within = let count = e.count in grind (arith, common_steps, count);
      same = g.met.L.Link.same_trans _ _ _ c.pieces.invariant.same e.same;
    }

pub returns-in-Err-clause-front : goal.returns-in-Err-clause-front
returns-in-Err-clause-front g c =
    let took = c.pieces.invariant.took in
    let bytes = c.args.bytes.now in
    let done = c.pieces.done in
    let e = c.in-Err.ensures in
    record {
      front = take done bytes;
      unwritten = drop done bytes;
      are = sym (take-append-drop done bytes);
      some = left_over done bytes c.pieces-test.true;
      took = record {
        given = e.given ∙ took.given;
        taken = gains_same _ _ _ (take done bytes) took.taken e.err;
        read_faults = e.read_faults ∙ took.read_faults;
        write_faults = let x = took.write_faults in let y = e.cause.later in omega (arith, x, y);
        ends = e.ends ∙ took.ends;
      };
      rose = rose_from _ _ _ took.write_faults (e.cause.failed refl);
    }
