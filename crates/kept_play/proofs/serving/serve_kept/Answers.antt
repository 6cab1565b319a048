use Rattle.std.specs.Prelude.{Result}
use Rattle.conn_script.specs.declared.wants.ConnFault.{ConnFault}
use Rattle.conn_script.specs.declared.wants.Served.{Served}
use Rattle.local_driver.specs.Served.{ServedLocally, outside_of}
use Rattle.local_driver.specs.World.{world_of}
use Rattle.kept_play.proofs.ServeLemmas.{blamed, kept_all, kept_till, no_keeper, tells, tells_none}
use Rattle.kept_play.proofs.serving.serve_kept.Goals as goal

pub returns-in-Ok-clause-served : goal.returns-in-Ok-clause-served
returns-in-Ok-clause-served g c = tells (λ (ended : Result Served ConnFault). ServedLocally g.N.NodeLink.gives g.C.Clock.gives c.args.own.now
    (outside_of (world_of c.args.hub.now.hub c.args.nodes.now c.args.clock.now (g.C.Clock.view c.args.clock.now)) (g.L.Link.view c.args.link.now)) ended
    (outside_of (world_of c.serve_by.new.hub.hub c.serve_by.new.nodes c.serve_by.new.clock (g.C.Clock.view c.serve_by.new.clock)) (g.L.Link.view c.serve_by.new.link)))
    c.in-Ok.ended c.told.result c.told.ensures c.in-Ok.ensures.served

pub returns-in-Ok-clause-kept : goal.returns-in-Ok-clause-kept
returns-in-Ok-clause-kept g c =
    kept_all g.K.Keeper.disk g.K.Keeper.faults c.args.hub.now c.serve_by.new.hub c.in-Ok.ended c.told.result c.told.ensures c.nothing_was_called.ensures c.in-Ok.ensures.goes

pub returns-in-Ok-clause-went : goal.returns-in-Ok-clause-went
returns-in-Ok-clause-went g c = (c.in-Ok.ensures.goes.along c.args.hub.now c.nothing_was_called.ensures).went

pub returns-in-Ok-clause-later : goal.returns-in-Ok-clause-later
returns-in-Ok-clause-later g c = (c.in-Ok.ensures.goes.along c.args.hub.now c.nothing_was_called.ensures).later

pub returns-in-Ok-clause-cause : goal.returns-in-Ok-clause-cause
returns-in-Ok-clause-cause g c = λ blames. absurd (no_keeper c.in-Ok.ended c.told.result c.told.ensures blames)

pub returns-in-Err-clause-served : goal.returns-in-Err-clause-served
returns-in-Err-clause-served g c = tells_none (λ (ended : Result Served ConnFault). ServedLocally g.N.NodeLink.gives g.C.Clock.gives c.args.own.now
    (outside_of (world_of c.args.hub.now.hub c.args.nodes.now c.args.clock.now (g.C.Clock.view c.args.clock.now)) (g.L.Link.view c.args.link.now)) ended
    (outside_of (world_of c.serve_by.new.hub.hub c.serve_by.new.nodes c.serve_by.new.clock (g.C.Clock.view c.serve_by.new.clock)) (g.L.Link.view c.serve_by.new.link)))
    c.in-Err.fault c.end_of.result c.end_of.ensures

pub returns-in-Err-clause-kept : goal.returns-in-Err-clause-kept
returns-in-Err-clause-kept g c =
    kept_till g.K.Keeper.disk g.K.Keeper.faults c.args.hub.now c.serve_by.new.hub c.in-Err.fault c.end_of.result c.end_of.ensures (c.in-Err.ensures.goes c.args.hub.now c.nothing_was_called.ensures)

pub returns-in-Err-clause-went : goal.returns-in-Err-clause-went
returns-in-Err-clause-went g c = (c.in-Err.ensures.goes c.args.hub.now c.nothing_was_called.ensures).went

pub returns-in-Err-clause-later : goal.returns-in-Err-clause-later
returns-in-Err-clause-later g c = (c.in-Err.ensures.goes c.args.hub.now c.nothing_was_called.ensures).later

pub returns-in-Err-clause-cause : goal.returns-in-Err-clause-cause
returns-in-Err-clause-cause g c =
    blamed g.K.Keeper.disk g.K.Keeper.faults c.args.hub.now c.serve_by.new.hub c.in-Err.fault c.end_of.result c.end_of.ensures (c.in-Err.ensures.goes c.args.hub.now c.nothing_was_called.ensures)
