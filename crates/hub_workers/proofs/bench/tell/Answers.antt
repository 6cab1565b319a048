use Rattle.hub_workers.specs.ClockLaws.{asked_once, remembers_now, shared_ticks}
use Rattle.hub_workers.proofs.bench.tell.Goals as goal

pub returns-clause-ticks : goal.returns-clause-ticks
returns-clause-ticks g c =
    shared_ticks g.C.Clock.gives g.C.Clock.view c.args.last.now.value c.args.clock.now c.now-at.new.self c.of-told.result.value c.now-at.result.0
    c.requires.since c.now-at.ensures.gives c.now-at.ensures.value c.now-at.ensures.later c.of-told.ensures

pub returns-clause-remembers : goal.returns-clause-remembers
returns-clause-remembers g c =
    remembers_now g.C.Clock.gives g.C.Clock.view c.now-at.new.self c.of-told.result.value c.now-at.result.0 c.of-told.ensures c.now-at.ensures.value

pub returns-clause-asked : goal.returns-clause-asked
returns-clause-asked g c =
    asked_once g.C.Clock.gives g.C.Clock.view c.args.clock.now c.now-at.new.self c.now-at.result.0 c.now-at.ensures.gives c.now-at.ensures.later
