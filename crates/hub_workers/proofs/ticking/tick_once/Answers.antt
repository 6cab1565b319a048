use Rattle.std.proofs.Common.{subst}
use Rattle.grid_types.specs.Calls.{Call}
use Rattle.hub_cell.specs.declared.hub.CellFault.{CellFault}
use Rattle.hub_cell.specs.Passes.{IsFault, knows}
use Rattle.node_client.specs.ClockSteps.{ticked}
use Rattle.hub_workers.specs.Turns.{TickerSpent, sweep_spent}
use Rattle.hub_workers.proofs.WorkLemmas.{one_spent, swept_none, swept_turn}
use Rattle.hub_workers.proofs.ticking.tick_once.Goals as goal

pub returns-in-Ok-clause-turned : goal.returns-in-Ok-clause-turned
returns-in-Ok-clause-turned g c =
    swept_turn c.args.hub.now g.N.NodeLink.gives g.C.Clock.gives c.end_then_pause.result (knows c.args.pass.now) (knows c.sweep.new.pass) c.args.nodes.now c.now-at.result.0 _ _ _ _ _ _ c.in-Ok.ensures.serves
    (ticked _ _ _ _ _ _ c.now-at.ensures.gives c.now-at.ensures.value c.now-at.ensures.later c.now-at.ensures.still) c.end_then_pause.ensures.turned

pub returns-in-Err-Spent-clause-turned : goal.returns-in-Err-Spent-clause-turned
returns-in-Err-Spent-clause-turned g c =
    let is = subst (λ (f : CellFault). IsFault c.args.hub.now (knows c.args.pass.now) (knows c.sweep.new.pass) f) c.in-Err-Spent.field-0-is c.in-Err-Spent.ensures.spent in
    one_spent c.args.hub.now g.N.NodeLink.gives g.C.Clock.gives TickerSpent (knows c.args.pass.now) (knows c.sweep.new.pass) c.args.nodes.now Call.sweep c.now-at.result.0 c.in-Err-Spent.spent _ _ _ _
    (sweep_spent c.now-at.result.0) is
    (ticked _ _ _ _ _ _ c.now-at.ensures.gives c.now-at.ensures.value c.now-at.ensures.later c.now-at.ensures.still)

pub returns-in-Err-Memory-clause-turned : goal.returns-in-Err-Memory-clause-turned
returns-in-Err-Memory-clause-turned g c =
    let is = subst (λ (f : CellFault). IsFault c.args.hub.now (knows c.args.pass.now) (knows c.sweep.new.pass) f) c.in-Err-Memory.field-0-is c.in-Err-Memory.ensures.spent in
    swept_none c.args.hub.now g.N.NodeLink.gives g.C.Clock.gives (knows c.args.pass.now) (knows c.sweep.new.pass) c.args.nodes.now c.now-at.result.0 _ _ _ _ is
    (ticked _ _ _ _ _ _ c.now-at.ensures.gives c.now-at.ensures.value c.now-at.ensures.later c.now-at.ensures.still)
