use Rattle.std.proofs.Common.{refl, inl, inr, arith}
use Rattle.loop_node.specs.LinkedNodes.{nodes_reached}
use Rattle.grid_play.specs.Crew.{first_crew, gathered}
use Rattle.kept_play.proofs.PlayLemmas.{fresh_nodes, kept_so}
use Rattle.kept_play.proofs.StatusLemmas.{tells_back, tells_open, tells_stop, why_of}
use Rattle.kept_play.proofs.top.open_and_play.Goals as goal

pub returns-in_default-clause-kept : goal.returns-in_default-clause-kept
returns-in_default-clause-kept g c = inr (record { why = inl (inl refl); same_link = refl; same_disk = refl })

pub returns-in_default-clause-tells : goal.returns-in_default-clause-tells
returns-in_default-clause-tells g c = tells_stop _ _ 5 _ _ (inl refl) (λ e. absurd (omega (arith, e)))

pub returns-in-Ok-open-clause-kept : goal.returns-in-Ok-open-clause-kept
returns-in-Ok-open-clause-kept g c =
    let crew = c.in-Ok.crew in
    kept_so g.P.Keeper.disk c.args.config c.args.played.now c.play_over-status.result _ _ c.in-Ok-open.hub c.play_over-status.new.hub c.args.keeper c.into_keeper.result crew.nodes
    c.in-Ok-open.ensures.config c.in-Ok-open.ensures.open c.in-Ok-open.ensures.rows c.into_keeper.ensures
    (fresh_nodes (gathered crew.hub (nodes_reached crew.nodes) crew.numbers.items) (first_crew c.args.config c.args.played.now) c.in-Ok.ensures.crew)
    c.play_over-status.ensures.plays c.play_over-status.ensures.went c.play_over-status.ensures.runs

pub returns-in-Ok-open-clause-tells : goal.returns-in-Ok-open-clause-tells
returns-in-Ok-open-clause-tells g c =
    tells_back g.P.Keeper.faults c.args.keeper c.in-Ok-open.hub.keeper c.play_over-status.new.hub.keeper c.into_keeper.result c.play_over-status.result _ _ c.into_keeper.ensures c.in-Ok-open.ensures.later c.play_over-status.ensures.tells

pub returns-clause-kept : goal.returns-clause-kept
returns-clause-kept g c =
    inr (record { why = why_of c.args.config (g.P.Keeper.disk c.args.keeper) c.in-Err.fault c.open_status.result c.open_status.ensures c.in-Err.ensures.bad; same_link = refl; same_disk = c.in-Err.ensures.back })

pub returns-clause-tells : goal.returns-clause-tells
returns-clause-tells g c = tells_open _ _ c.in-Err.fault c.open_status.result _ _ c.open_status.ensures c.in-Err.ensures.read
