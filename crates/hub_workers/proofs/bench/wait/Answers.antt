use Rattle.hub_workers.specs.ClockLaws.{asked_once, remembers_now, remembers_on}
use Rattle.hub_workers.proofs.bench.wait.Goals as goal

pub returns-then-now-due-clause-remembers : goal.returns-then-now-due-clause-remembers
returns-then-now-due-clause-remembers g c =
    remembers_on g.C.Clock.gives g.C.Clock.view c.args.clock.now c.now-now.new.self c.args.moment.now c.args.last.now.value
    (asked_once g.C.Clock.gives g.C.Clock.view c.args.clock.now c.now-now.new.self c.now-now.result.0 c.now-now.ensures.gives c.now-now.ensures.later) c.requires

pub returns-then-now-due-clause-asked : goal.returns-then-now-due-clause-asked
returns-then-now-due-clause-asked g c =
    asked_once g.C.Clock.gives g.C.Clock.view c.args.clock.now c.now-now.new.self c.now-now.result.0 c.now-now.ensures.gives c.now-now.ensures.later

pub returns-clause-remembers : goal.returns-clause-remembers
returns-clause-remembers g c =
    remembers_now g.C.Clock.gives g.C.Clock.view c.now-now.new.self c.of-rested.result.value c.now-now.result.0 c.of-rested.ensures c.now-now.ensures.value

pub returns-clause-asked : goal.returns-clause-asked
returns-clause-asked g c =
    asked_once g.C.Clock.gives g.C.Clock.view c.args.clock.now c.now-now.new.self c.now-now.result.0 c.now-now.ensures.gives c.now-now.ensures.later
