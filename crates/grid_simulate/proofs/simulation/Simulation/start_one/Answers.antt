use Rattle.std.proofs.Common.{ℕ, ◌<◌, sym, ap, ◌∙◌, arith}
use Rattle.std.specs.Prelude.{length}
use Rattle.grid_simulate.specs.World.{world_of}
use Rattle.grid_simulate.specs.Draws.{next_number, drawn_by}
use Rattle.grid_simulate.proofs.DrawLemmas.{on_ok_more, starts_none, starts_member}
use Rattle.grid_simulate.proofs.simulation.Simulation.start_one.Goals as goal

pub returns-then-count-eq0-clause-acts : goal.returns-then-count-eq0-clause-acts
returns-then-count-eq0-clause-acts c = starts_none (world_of c.args.self.now) c.args.self.now.reservations.items (sym c.count_of-count.ensures.items ∙ c.if-count-eq0.true)

pub returns-clause-acts : goal.returns-clause-acts
returns-clause-acts c =
    let s = c.args.self.now in
    let some : 0 < length s.reservations.items = omega (arith, c.draw_place-place.ensures.below, c.count_of-count.ensures.items) in
    on_ok_more c.start_at.result
    (λ h. starts_member (world_of s) _ s.reservations.items c.draw_place-place.result c.draw_place-place.new.number some c.draw_place-place.ensures.next
    (c.draw_place-place.ensures.value ∙ ap (λ (n : ℕ). drawn_by (next_number s.number) n) c.count_of-count.ensures.items) h)
    c.start_at.ensures.acts
