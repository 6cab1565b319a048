use Rattle.turn_cell.specs.Cells.{view_of}
use Rattle.trial_threads.proofs.CountLemmas.{adds}
use Rattle.trial_threads.proofs.adding.add.Goals as goal

pub returns-clause-added : goal.returns-clause-added
returns-clause-added g c =
    adds (view_of c.args.pass.now) (view_of c.enter.new.pass) (view_of c.add_in.new.pass) c.in_ok-turn.turn.ticket c.add_in.result c.in_ok-turn.ensures.turn.1 c.in_ok-turn.ensures.seen.0
    c.in_ok-turn.ensures.stands.0.1 c.add_in.ensures.count c.add_in.ensures.view
