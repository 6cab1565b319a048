use Rattle.std.proofs.Common.{ap, ◌∙◌}
use Rattle.grid_outside.specs.Told.{LinkView}
use Rattle.grid_outside.proofs.AwaitedLemmas.{gains_nothing}
use Rattle.grid_outside.proofs.awaited.AwaitedLinkLink.read.Goals as goal

pub returns-in-End-clause-given : goal.returns-in-End-clause-given
returns-in-End-clause-given g c =
    gains_nothing (g.G.L.Line.view c.args.self.now.line).given (g.G.L.Line.view c.read.new.self).given
    (c.in-End.ensures.1 ∙ ap (λ (v : LinkView). v.given) c.loop.invariant.0)
