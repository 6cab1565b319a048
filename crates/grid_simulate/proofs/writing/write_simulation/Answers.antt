use Rattle.std.proofs.Common.{List, ℕ, subst}
use Rattle.grid_outside.specs.Told.{Gains}
use Rattle.grid_outside.specs.Told.{TookFront}
use Rattle.grid_simulate.proofs.writing.write_simulation.Goals as goal

pub returns-in-Ok-clause-whole : goal.returns-in-Ok-clause-whole
returns-in-Ok-clause-whole g c = λ e.
    let t = c.in-Ok.ensures in
    record { summary = t.summary; is = t.is; gains = subst (λ (l : List ℕ). Gains (g.K.Sink.view c.args.output.now).taken (g.K.Sink.view c.write_text.new.output).taken l) t.text_is (c.write_text.ensures.whole e) }

pub returns-in-Ok-clause-broken : goal.returns-in-Ok-clause-broken
returns-in-Ok-clause-broken g c = λ e.
    let t = c.in-Ok.ensures in
    record { summary = t.summary; is = t.is; stops = subst (λ (l : List ℕ). TookFront (g.K.Sink.view c.args.output.now).taken (g.K.Sink.view c.write_text.new.output).taken l) t.text_is (c.write_text.ensures.broken e) }
