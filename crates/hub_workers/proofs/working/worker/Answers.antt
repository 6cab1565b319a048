use Rattle.std.proofs.Common.{rules}
use Rattle.hub_workers.specs.Turns.{WorkerSpent, WorkerTurn}
use Rattle.hub_workers.specs.declared.ends.WorkerEnd.TheVariants as ends
use Rattle.hub_workers.proofs.WorkLemmas.{turns_all, turns_more, turns_none, turns_stop, worker_count}
use Rattle.hub_workers.proofs.working.worker.Goals as goal

pub loop-init : goal.loop-init
loop-init g c = record { own = c.requires; way = turns_none c.args.hub.now g.N.NodeLink.gives g.C.Clock.gives WorkerTurn _ }

pub loop-preserved : goal.loop-preserved
loop-preserved g c = record {
  own = c.work_once.ensures.own;
  way = turns_more c.args.hub.now g.N.NodeLink.gives g.C.Clock.gives WorkerTurn c.loop.counter _ _ _ c.loop.invariant.way c.in_default.ensures.turned;
}

pub returns-in-Some-clause-worked : goal.returns-in-Some-clause-worked
returns-in-Some-clause-worked g c =
    turns_stop c.args.hub.now g.N.NodeLink.gives g.C.Clock.gives WorkerTurn WorkerSpent c.args.turns c.loop.counter _ _ _ (search rules) c.loop.invariant.way c.in-Some.ensures.turned

pub returns-in-Some-clause-spent : goal.returns-in-Some-clause-spent
returns-in-Some-clause-spent g c =
    worker_count c.args.hub.now g.N.NodeLink.gives g.C.Clock.gives c.args.turns _ _ (ends.Spent c.in-Some.spent)
    (turns_stop c.args.hub.now g.N.NodeLink.gives g.C.Clock.gives WorkerTurn WorkerSpent c.args.turns c.loop.counter _ _ _ (search rules) c.loop.invariant.way c.in-Some.ensures.turned)

pub returns-clause-spent : goal.returns-clause-spent
returns-clause-spent g c = worker_count c.args.hub.now g.N.NodeLink.gives g.C.Clock.gives c.args.turns _ _ ends.TurnsDone
    (turns_all c.args.hub.now g.N.NodeLink.gives g.C.Clock.gives WorkerTurn c.loop.counter c.args.turns _ _ (search rules) c.loop.invariant.way)
