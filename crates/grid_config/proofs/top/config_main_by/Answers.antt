use Rattle.std.proofs.Common.{◌≡◌, subst}
use Rattle.grid_config.specs.Rows.{rows_of}
use Rattle.grid_config.specs.declared.rows.Mode.{Mode}
use Rattle.grid_config.specs.Ran.{Ran}
use Rattle.grid_config.specs.Servers.{MayServe}
use Rattle.grid_config.proofs.NameLemmas.{one_name}
use Rattle.grid_config.proofs.top.config_main_by.Goals as goal

pub returns-in-Some-clause-ran : goal.returns-in-Some-clause-ran
returns-in-Some-clause-ran g c = λ m is.
    subst (λ (k : Mode). Ran (rows_of k)
    (λ said. MayServe g.B.Begins.may k said c.run_input.result (g.D.Door.view c.args.door.now) (g.D.Door.view c.run_input.new.door))
    c.run_input.result (c.run_input.new.door ≡ c.args.door.now)
    (g.S.Source.view c.args.input.now)
    (g.S.Source.view c.run_input.new.input))
    (one_name c.args.words.now c.in-Some.mode m c.in-Some.ensures.some is) c.run_input.ensures
