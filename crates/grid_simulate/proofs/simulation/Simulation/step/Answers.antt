use Rattle.std.proofs.Common.{ℕ, ap, ◌∙◌, ◌+◌}
use Rattle.grid_simulate.specs.World.{world_of}
use Rattle.grid_simulate.specs.Actions.{action_of}
use Rattle.grid_simulate.proofs.DrawLemmas.{on_ok_more, step_made}
use Rattle.grid_simulate.proofs.simulation.Simulation.step.Goals as goal

pub returns-clause-steps : goal.returns-clause-steps
returns-clause-steps c =
    let s = c.args.self.now in
    on_ok_more c.act.result
    (λ h. step_made (world_of s) _ c.draw-rise.new.number c.draw-kind.new.number _ c.action_of-action.result c.draw-rise.ensures.next (ap (λ (k : ℕ). s.moment + k) c.draw-rise.ensures.value) c.draw-kind.ensures.next
    (c.action_of-action.ensures ∙ ap action_of c.draw-kind.ensures.value) h)
    c.act.ensures.acts
