use Rattle.grid_simulate.specs.World.{world_of}
use Rattle.grid_simulate.proofs.DrawLemmas.{on_ok_more, clears, beats}
use Rattle.grid_simulate.proofs.simulation.Simulation.clear_or_beat.Goals as goal

pub returns-then-kind-eq0-clause-acts : goal.returns-then-kind-eq0-clause-acts
returns-then-kind-eq0-clause-acts c =
    on_ok_more c.clear.result (λ h. clears (world_of c.args.self.now) _ c.draw-kind.new.number c.draw-kind.result c.draw-kind.ensures.next c.draw-kind.ensures.value c.if-kind-eq0.true h) c.clear.ensures.acts

pub returns-clause-acts : goal.returns-clause-acts
returns-clause-acts c =
    on_ok_more c.beat_all.result (λ h. beats (world_of c.args.self.now) _ c.draw-kind.new.number c.draw-kind.result c.draw-kind.ensures.next c.draw-kind.ensures.value c.if-kind-eq0.false h) c.beat_all.ensures.acts
