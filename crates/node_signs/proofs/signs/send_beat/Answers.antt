use Rattle.std.proofs.Common.{List, ℕ, subst, ◌∙◌}
use Rattle.std.specs.Prelude.{Result, Ok, Err, OnOk}
use Rattle.grid_outside.specs.Exchanges.{Came}
use Rattle.node_signs.specs.Signs.{ask_to_post, BeatIs}
use Rattle.node_signs.proofs.signs.send_beat.Goals as goal

holds : {A E P : Type 0} (r : Result A E) → P → OnOk r P
holds (Ok a) p = p
holds (Err e) p = tt

pub returns-in-Ok : goal.returns-in-Ok
returns-in-Ok g c =
    holds c.told.result
    (subst (λ (t : List ℕ). (x : Came) × (g.N.NodeLink.gives c.args.nodes.now c.args.hub.now (ask_to_post t c.args.body.now) x c.told.new.nodes) × (BeatIs x c.told.result)) (c.as_bytes.ensures.value ∙ c.in-Ok.ensures.ok) c.told.ensures)
