use Rattle.std.proofs.Common.{arith, refl, inr}
use Rattle.kept_play.proofs.PlayLemmas.{plays_on, settled_alone, settled_broke, settled_so, settled_then}
use Rattle.kept_play.proofs.StatusLemmas.{stop_since, tells_since, tells_stop}
use Rattle.kept_play.proofs.playing.play_over.Goals as goal

pub returns-in-Err-clause-plays : goal.returns-in-Err-clause-plays
returns-in-Err-clause-plays g c = inr (c.in-Err.ensures.stops, refl)

pub returns-in-Err-clause-runs : goal.returns-in-Err-clause-runs
returns-in-Err-clause-runs g c = settled_alone g.P.Keeper.disk c.args.hub.now c.settle_all.new.hub c.settle_all.ensures.went

pub returns-in-Err-clause-tells : goal.returns-in-Err-clause-tells
returns-in-Err-clause-tells g c = tells_stop _ _ c.in-Err.status _ _ c.in-Err.ensures.stops c.in-Err.ensures.keeper

pub returns-in-Ok-clause-plays : goal.returns-in-Ok-clause-plays
returns-in-Ok-clause-plays g c =
    let settled = c.settle_all.ensures in
    let none = settled_so c.settle_all.result c.in_default.not-Err settled.none in
    let tickets = settled_so c.settle_all.result c.in_default.not-Err settled.tickets in
    plays_on g.P.Keeper.disk c.args.played.now c.args.hub.now c.settle_all.new.hub c.place_nodes.new.hub c.serve_over.new.hub c.args.nodes.now c.settle_all.new.nodes c.in-Ok.own.items c.as_slice.result.now
    c.serve_over.result _ _ settled.went c.place_nodes.ensures.went none tickets settled.asks c.in-Ok.ensures.placed c.as_slice.ensures.value c.serve_over.ensures.served

pub returns-in-Ok-clause-went : goal.returns-in-Ok-clause-went
returns-in-Ok-clause-went g c =
    c.ways_join.ensures c.args.hub.now c.place_nodes.new.hub c.serve_over.new.hub c.serve_over.ensures.went
    (c.ways_join.ensures c.args.hub.now c.settle_all.new.hub c.place_nodes.new.hub c.place_nodes.ensures.went c.settle_all.ensures.went)

pub returns-in-Ok-clause-runs : goal.returns-in-Ok-clause-runs
returns-in-Ok-clause-runs g c =
    settled_then g.P.Keeper.disk c.args.hub.now c.settle_all.new.hub c.place_nodes.new.hub c.serve_over.new.hub c.settle_all.ensures.went c.in-Ok.ensures.runs c.serve_over.ensures.runs

pub returns-in-Ok-clause-tells : goal.returns-in-Ok-clause-tells
returns-in-Ok-clause-tells g c = tells_since _ _ _ c.serve_over.result _ _ (omega (arith, c.settle_all.ensures.later, c.place_nodes.ensures.later)) c.serve_over.ensures.tells

pub returns-in-Err-place_nodes-clause-plays : goal.returns-in-Err-place_nodes-clause-plays
returns-in-Err-place_nodes-clause-plays g c = inr (c.in-Err-place_nodes.ensures.stops, refl)

pub returns-in-Err-place_nodes-clause-went : goal.returns-in-Err-place_nodes-clause-went
returns-in-Err-place_nodes-clause-went g c = c.ways_join.ensures c.args.hub.now c.settle_all.new.hub c.place_nodes.new.hub c.place_nodes.ensures.went c.settle_all.ensures.went

pub returns-in-Err-place_nodes-clause-runs : goal.returns-in-Err-place_nodes-clause-runs
returns-in-Err-place_nodes-clause-runs g c = settled_broke g.P.Keeper.disk c.args.hub.now c.settle_all.new.hub c.place_nodes.new.hub c.settle_all.ensures.went c.in-Err-place_nodes.ensures.breaks

pub returns-in-Err-place_nodes-clause-tells : goal.returns-in-Err-place_nodes-clause-tells
returns-in-Err-place_nodes-clause-tells g c = stop_since _ _ _ c.in-Err-place_nodes.status _ _ c.settle_all.ensures.later c.in-Err-place_nodes.ensures.stops c.in-Err-place_nodes.ensures.keeper
