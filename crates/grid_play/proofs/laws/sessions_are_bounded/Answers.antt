use Rattle.grid_play.proofs.BoundLemmas.{bounded}
use Rattle.grid_play.proofs.laws.sessions_are_bounded.Goals as goal

pub returns : goal.returns
returns c = λ k. bounded c.calls_keep_the_newest_request.ensures c.calls_keep_the_clock.ensures.clock c.calls_keep_the_clock.ensures.queued c.starts_run_out.ensures
    c.polls_are_early.ensures.early c.polls_are_early.ensures.moments k c.bodies_give_one_answer.ensures
