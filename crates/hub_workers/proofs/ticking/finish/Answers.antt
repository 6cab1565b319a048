use Rattle.std.proofs.Common.{subst}
use Rattle.hub_cell.specs.Passes.{knows}
use Rattle.node_client.specs.ClockSteps.{ticked}
use Rattle.node_client.specs.Quitting.{AsksOnce}
use Rattle.hub_workers.proofs.WorkLemmas.{finished_so, stopped_so}
use Rattle.hub_workers.proofs.ticking.finish.Goals as goal

pub returns-in-Ok-clause-finishes : goal.returns-in-Ok-clause-finishes
returns-in-Ok-clause-finishes g c =
    let asks = subst (λ b. AsksOnce g.N.NodeLink.gives c.args.closing c.args.nodes.now b c.ask_to_end-sent.new.nodes) c.if-sent.true c.ask_to_end-sent.ensures in
    finished_so c.args.hub.now g.N.NodeLink.gives g.C.Clock.gives c.args.closing _ (knows c.args.pass.now) (knows c.freed.new.pass) c.args.nodes.now c.ask_to_end-sent.new.nodes c.now-now.result.0 _ _ _ _
    asks (c.in-Ok.ensures.serves c.now-now.result.0) (ticked _ _ _ _ _ _ c.now-now.ensures.gives c.now-now.ensures.value c.now-now.ensures.later c.now-now.ensures.still)

pub returns-in-Ok-2-clause-finishes : goal.returns-in-Ok-2-clause-finishes
returns-in-Ok-2-clause-finishes g c =
    let asks = subst (λ b. AsksOnce g.N.NodeLink.gives c.args.closing c.args.nodes.now b c.ask_to_end-sent.new.nodes) c.if-sent.false c.ask_to_end-sent.ensures in
    finished_so c.args.hub.now g.N.NodeLink.gives g.C.Clock.gives c.args.closing _ (knows c.args.pass.now) (knows c.freed.new.pass) c.args.nodes.now c.ask_to_end-sent.new.nodes c.now-now.result.0 _ _ _ _
    asks (c.in-Ok-2.ensures.serves c.now-now.result.0) (ticked _ _ _ _ _ _ c.now-now.ensures.gives c.now-now.ensures.value c.now-now.ensures.later c.now-now.ensures.still)

pub returns-in-Err-clause-finishes : goal.returns-in-Err-clause-finishes
returns-in-Err-clause-finishes g c =
    stopped_so c.args.hub.now g.N.NodeLink.gives g.C.Clock.gives c.args.closing _ c.in-Err.stopped.spent (knows c.args.pass.now) (knows c.freed.new.pass) c.args.nodes.now c.ask_to_end-sent.new.nodes c.now-now.result.0 _ _ _ _
    c.ask_to_end-sent.ensures c.in-Err.ensures.stopped.0 (ticked _ _ _ _ _ _ c.now-now.ensures.gives c.now-now.ensures.value c.now-now.ensures.later c.now-now.ensures.still)
