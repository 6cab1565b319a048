use Rattle.std.proofs.Common.{ℕ, List, refl, ◌∙◌, subst}
use Rattle.grid_log.specs.Logs.{Output, output_of}
use Rattle.grid_report.specs.Writes.{TextEnds, unspelled}
use Rattle.grid_report.proofs.telling.write_page.Goals as goal

pub returns-in-Ok : goal.returns-in-Ok
returns-in-Ok g c =
    let before : Output = output_of (g.K.Sink.view c.args.output.now).taken (g.K.Sink.view c.args.output.now).faults in
    let after : Output = output_of (g.K.Sink.view c.write_text.new.output).taken (g.K.Sink.view c.write_text.new.output).faults in
    subst (λ (bytes : List ℕ). TextEnds bytes c.args.ending before after c.write_text.result) (c.as_bytes.ensures ∙ c.in-Ok.ensures) c.write_text.ensures

pub returns-in-Err : goal.returns-in-Err
returns-in-Err g c = unspelled refl refl
