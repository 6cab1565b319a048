use Rattle.hub_core.specs.HubView.{past}
use Rattle.local_driver.proofs.LiveLemmas.{freed_keeps}
use Rattle.local_driver.proofs.BeginLemmas.{finished_so}
use Rattle.std.proofs.lemmas.Result.{err_from_is_err_and}
use Rattle.node_client.specs.ClockSteps.{ticked}
use Rattle.local_driver.proofs.before.finish.Goals as goal

pub returns-clause-finishes : goal.returns-clause-finishes
returns-clause-finishes g c =
    finished_so g.N.NodeLink.gives g.C.Clock.gives c.args.closing c.ask_to_end-sent.result (g.H.OwnHub.own.shown c.args.hub.now) (g.H.OwnHub.own.shown c.freed.new.self) c.args.nodes.now c.ask_to_end-sent.new.nodes c.now-now.result.0 _ _ _ _
    c.ask_to_end-sent.ensures (c.in_ok-freed.ensures c.now-now.result.0).serves (ticked _ _ _ _ _ _ c.now-now.ensures.gives c.now-now.ensures.value c.now-now.ensures.later c.now-now.ensures.still)

pub returns-clause-live : goal.returns-clause-live
returns-clause-live g c =
    freed_keeps (g.H.OwnHub.own.shown c.args.hub.now).config (past (g.H.OwnHub.own.shown c.args.hub.now)) c.now-now.result.0 c.args.closing (past (g.H.OwnHub.own.shown c.freed.new.self)) (c.in_ok-freed.ensures c.now-now.result.0).serves.serves.answers

pub returns-clause-goes : goal.returns-clause-goes
returns-clause-goes g c = (c.in_ok-freed.ensures 0).goes

pub returns-in_err-freed-clause-goes : goal.returns-in_err-freed-clause-goes
returns-in_err-freed-clause-goes g c =
    let p = err_from_is_err_and c.from_residual.result c.from_residual.ensures.1 in
    rw (p.1, p.2) (c.in_err-freed.ensures 0)
