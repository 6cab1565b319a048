use Rattle.hub_workers.proofs.WorkLemmas.{lacks_after, paused_after, spent_later}
use Rattle.hub_workers.proofs.ticking.end_then_pause.Goals as goal

pub returns-in-Over-clause-turned : goal.returns-in-Over-clause-turned
returns-in-Over-clause-turned g c = paused_after c.args.hub.now g.N.NodeLink.gives g.C.Clock.gives _ _ _ _ _ _ _ c.in-Over.ensures.looked
    (record { at = c.pause.result.0; gave = c.pause.ensures.gives; long_enough = c.pause.ensures.long_enough; told = c.pause.ensures.told })

pub returns-in-Lacks-clause-turned : goal.returns-in-Lacks-clause-turned
returns-in-Lacks-clause-turned g c = lacks_after c.args.hub.now g.N.NodeLink.gives g.C.Clock.gives _ _ c.in-Lacks.ensures.looked

pub returns-in-Spent-clause-turned : goal.returns-in-Spent-clause-turned
returns-in-Spent-clause-turned g c = spent_later c.args.hub.now g.N.NodeLink.gives g.C.Clock.gives _ _ c.in-Spent.spent c.in-Spent.ensures.looked
