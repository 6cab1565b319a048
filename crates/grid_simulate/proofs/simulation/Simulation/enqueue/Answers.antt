use Rattle.std.proofs.Common.{ℕ, ap, ◌∙◌}
use Rattle.grid_types.specs.Calls.{Call}
use Rattle.grid_simulate.specs.World.{world_of, drawn}
use Rattle.grid_simulate.specs.Actions.{enqueues, wanted_browser, choices_of}
use Rattle.grid_simulate.proofs.DrawLemmas.{on_ok_more}
use Rattle.grid_simulate.proofs.simulation.Simulation.enqueue.Goals as goal

pub returns-clause-acts : goal.returns-clause-acts
returns-clause-acts c =
    let w = world_of c.args.self.now in
    let same = c.in_ok-choices.ensures ∙ ap choices_of (c.wanted_browser-browser.ensures ∙ ap wanted_browser c.draw-kind.ensures.value) in
    on_ok_more c.enqueue_choices.result
    (λ h. h ∙ ap (λ (n : ℕ). enqueues (record w { number = n }) (Call.enqueue c.in_ok-choices.choices)) c.draw-kind.ensures.next ∙ ap (λ l. enqueues (drawn w) (Call.enqueue l)) same)
    c.enqueue_choices.ensures.acts
