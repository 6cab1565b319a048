use Rattle.hub_workers.specs.ClockLaws.{asked_once, remembers_now}
use Rattle.hub_workers.proofs.bench.Bench.new.Goals as goal

pub returns-clause-remembers : goal.returns-clause-remembers
returns-clause-remembers g c =
    remembers_now g.C.Clock.gives g.C.Clock.view c.now-now.new.self c.of-last.result.value c.now-now.result.0 c.of-last.ensures c.now-now.ensures.value

pub returns-clause-asked : goal.returns-clause-asked
returns-clause-asked g c =
    asked_once g.C.Clock.gives g.C.Clock.view c.args.clock.now c.now-now.new.self c.now-now.result.0 c.now-now.ensures.gives c.now-now.ensures.later
