use Rattle.std.proofs.Common.{ℕ, List, Some, rules, ap, ◌∙◌}
use Rattle.grid_outside.specs.Memory.{ClockGives, clock_view}
use Rattle.loop_node.specs.LinkedNodes.{nodes_reached}
use Rattle.grid_play.specs.Crew.{gathered}
use Rattle.grid_play.proofs.PlayedLemmas.{served_so}
use Rattle.grid_play.proofs.top.play.Goals as goal

pub returns-clause-served : goal.returns-clause-served
returns-clause-served g c =
    let e = c.serve_local-ended in
    let crew = c.in_ok-crew.crew in
    let registered = ap (λ (xs : List ℕ). gathered crew.hub (nodes_reached crew.nodes) xs) c.as_slice.ensures.value ∙ c.in_ok-crew.ensures.crew in
    let s = served_so ClockGives c.args.config c.args.played.now e.result crew.hub e.new.hub crew.nodes e.new.nodes _ _ (clock_view c.new-clock.result) _ _ c.as_slice.result.now _ _
    registered c.in_ok-crew.ensures.config c.new-clock.ensures.at (ap Some c.new-clock.ensures.pauses) e.ensures.served c.legal_is_safe.ensures in
    search (rules, s)
