use Rattle.std.proofs.Common.{ℕ, List, subst}
use Rattle.grid_teams_run.specs.Steps.{WritesSo, output_of}
use Rattle.grid_teams_run.proofs.RunLemmas.{answers_so}
use Rattle.grid_teams_run.proofs.blocks.answer.Goals as goal

pub returns-in-Ok-clause-answers : goal.returns-in-Ok-clause-answers
returns-in-Ok-clause-answers g c = λ said play.
    let served = c.in-Ok.ensures said play in
    answers_so said c.args.teams.now c.serve_block.new.teams c.args.bytes.now c.in-Ok.out c.write_out.result _ _
    (record { serves = served.0; play = served.1 })
    (subst (λ (o : List ℕ). WritesSo o c.write_out.result (output_of (g.K.Sink.view c.args.output.now).taken (g.K.Sink.view c.args.output.now).faults)
    (output_of (g.K.Sink.view c.write_out.new.output).taken (g.K.Sink.view c.write_out.new.output).faults)) c.as_bytes.ensures c.write_out.ensures.written)
