use Rattle.grid_check.proofs.EndLemmas.{makes}
use Rattle.grid_check.proofs.making.make_journal.Goals as goal

pub returns-in-Ok : goal.returns-in-Ok
returns-in-Ok g c =
    let old = g.K.Sink.view c.args.output.now in
    let new = g.K.Sink.view c.write_journal.new.output in
    makes c.args.number c.in-Ok.simulated.hub c.in-Ok.simulated.at c.in-Ok.simulated.summary c.simulated_config.result c.journal.result.now old new c.write_journal.result
    c.in-Ok.ensures c.simulated_config.ensures.is c.journal.ensures.journal c.write_journal.ensures
