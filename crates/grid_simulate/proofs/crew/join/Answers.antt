use Rattle.std.proofs.Common.{ℕ, ap, ◌∙◌, ◌+◌}
use Rattle.grid_simulate.specs.Crew.{browser_of}
use Rattle.grid_simulate.specs.Joining.{gathered}
use Rattle.grid_simulate.proofs.DrawLemmas.{on_ok_more, join_made}
use Rattle.grid_simulate.proofs.crew.join.Goals as goal

pub returns-clause-joined : goal.returns-clause-joined
returns-clause-joined c =
    on_ok_more c.enroll.result
    (λ h. join_made (gathered c.args.number.now c.args.hub.now c.args.nodes.now) _ c.args.i c.draw-kind.new.number c.draw-extra.new.number c.draw-first.new.number c.browser_of-browser.result.now c.slots_of-slots.result c.refuses_of-refuses.result
    c.draw-kind.ensures.next (c.browser_of-browser.ensures ∙ ap browser_of c.draw-kind.ensures.value) c.draw-extra.ensures.next (c.slots_of-slots.ensures.is ∙ ap (λ (k : ℕ). 1 + k) c.draw-extra.ensures.value)
    c.draw-first.ensures.next (c.refuses_of-refuses.ensures ∙ c.draw-first.ensures.value) (h c.draw-first.new.number))
    c.enroll.ensures.joins
