use Rattle.std.proofs.Common.{arith}
use Rattle.grid_teams_top.specs.Blocks.{standings}
use Rattle.grid_teams_run.proofs.RunLemmas.{at_limit, ended_so, none_so_far, so_far_more}
use Rattle.grid_teams_run.proofs.blocks.serve_all.Goals as goal

pub each-init : goal.each-init
each-init g c = record {
  so_far = λ said play. none_so_far said c.args.teams.now _ play;
  input_later = omega arith;
  output_later = omega arith;
}

pub each-preserved : goal.each-preserved
each-preserved g c = record {
  so_far = λ said play.
      let s = c.each.invariant.so_far said play in
      so_far_more said (standings c.args.teams.now) c.each.left c.serve_next.new.left c.each.teams c.serve_next.new.teams _ _ _ s (c.in-Ok.ensures.next said s.play);
  input_later = omega (arith, c.each.invariant.input_later, c.in-Ok.ensures.input_later);
  output_later = omega (arith, c.each.invariant.output_later, c.in-Ok.ensures.output_later);
}

pub returns-in-Err : goal.returns-in-Err
returns-in-Err g c = λ said play.
    let s = c.each.invariant.so_far said play in
    ended_so said (standings c.args.teams.now) c.each.left c.serve_next.new.left c.each.teams c.serve_next.new.teams _ _ _ s
    c.each.invariant.input_later c.each.invariant.output_later c.in-Err.end (c.in-Err.ensures.next said s.play)

pub returns : goal.returns
returns g c = λ said play.
    at_limit said (standings c.args.teams.now) c.each.left c.each.teams _ _ (c.each.invariant.so_far said play) (omega (arith, c.each-test.false))
