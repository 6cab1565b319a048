use Rattle.std.proofs.Common.{subst, sym}
use Rattle.hub_cell.specs.Passes.{knows}
use Rattle.hub_workers.specs.Benches.{now_of}
use Rattle.hub_workers.specs.SharedClock.{SharedTells, not_asked}
use Rattle.hub_workers.specs.WorkStages.{WorkGoes, Works}
use Rattle.hub_workers.specs.declared.acts.WorkAct.TheVariants as acts
use Rattle.hub_workers.specs.declared.work_steps.WorkStage.{WorkStage}
use Rattle.hub_workers.specs.declared.work_steps.WorkStage.TheVariants as stages
use Rattle.hub_workers.proofs.WorkStageLemmas.{is_under, over_again}
use Rattle.hub_workers.proofs.work_steps.work_on.Goals as goal

pub start_on-requires-clause-fresh : goal.start_on-requires-clause-fresh
start_on-requires-clause-fresh g c =
    let works = subst (λ (s : WorkStage). Works c.args.hub.now (g.N.NodeLine.asks c.args.bench.now.nodes) s (knows c.args.bench.now.pass) c.requires.works.0) c.in-Starting.is c.requires.works.1 in
    works.1

pub start_on-requires-clause-under : goal.start_on-requires-clause-under
start_on-requires-clause-under g c =
    let works = subst (λ (s : WorkStage). Works c.args.hub.now (g.N.NodeLine.asks c.args.bench.now.nodes) s (knows c.args.bench.now.pass) c.requires.works.0) c.in-Starting.is c.requires.works.1 in
    is_under c.in-Starting.carry (knows c.args.bench.now.pass) c.requires.works.0 works.0

pub start_on-requires-clause-idle : goal.start_on-requires-clause-idle
start_on-requires-clause-idle g c =
    let works = subst (λ (s : WorkStage). Works c.args.hub.now (g.N.NodeLine.asks c.args.bench.now.nodes) s (knows c.args.bench.now.pass) c.requires.works.0) c.in-Starting.is c.requires.works.1 in
    works.2

pub hear-requires : goal.hear-requires
hear-requires g c =
    let works = subst (λ (s : WorkStage). Works c.args.hub.now (g.N.NodeLine.asks c.args.bench.now.nodes) s (knows c.args.bench.now.pass) c.requires.works.0) c.in-Asking.is c.requires.works.1 in
    record { awaits = works.awaits }

pub returns-in-Between-clause-goes : goal.returns-in-Between-clause-goes
returns-in-Between-clause-goes g c =
    subst (λ (s : WorkStage). WorkGoes c.args.hub.now g.N.NodeLine.state g.N.NodeLine.gives g.N.NodeLine.asks g.C.Clock.gives g.C.Clock.view c.seek.new.clock s c.args.bench.now c.seek.result c.seek.new.bench) (sym c.in-Between.is) (c.seek.ensures.goes)

pub returns-in-Starting-clause-goes : goal.returns-in-Starting-clause-goes
returns-in-Starting-clause-goes g c =
    subst (λ (s : WorkStage). WorkGoes c.args.hub.now g.N.NodeLine.state g.N.NodeLine.gives g.N.NodeLine.asks g.C.Clock.gives g.C.Clock.view c.start_on.new.clock s c.args.bench.now c.start_on.result c.start_on.new.bench) (sym c.in-Starting.is) (c.start_on.ensures.goes)

pub returns-in-Asking-clause-goes : goal.returns-in-Asking-clause-goes
returns-in-Asking-clause-goes g c =
    subst (λ (s : WorkStage). WorkGoes c.args.hub.now g.N.NodeLine.state g.N.NodeLine.gives g.N.NodeLine.asks g.C.Clock.gives g.C.Clock.view c.args.clock.now s c.args.bench.now c.hear.result c.hear.new.bench) (sym c.in-Asking.is) (c.hear.ensures.goes c.args.hub.now c.args.clock.now)

pub returns-in-Pausing-clause-goes : goal.returns-in-Pausing-clause-goes
returns-in-Pausing-clause-goes g c =
    subst (λ (s : WorkStage). WorkGoes c.args.hub.now g.N.NodeLine.state g.N.NodeLine.gives g.N.NodeLine.asks g.C.Clock.gives g.C.Clock.view c.rest.new.clock s c.args.bench.now c.rest.result c.rest.new.bench) (sym c.in-Pausing.is) (c.rest.ensures.goes c.args.hub.now)

pub returns-in-Over-clause-goes : goal.returns-in-Over-clause-goes
returns-in-Over-clause-goes g c =
    subst (λ (s : WorkStage). WorkGoes c.args.hub.now g.N.NodeLine.state g.N.NodeLine.gives g.N.NodeLine.asks g.C.Clock.gives g.C.Clock.view c.args.clock.now s c.args.bench.now (stages.Over c.in-Over.spent, acts.Over c.in-Over.spent) c.args.bench.now) (sym c.in-Over.is)
    (over_again c.args.hub.now g.N.NodeLine.gives (SharedTells g.C.Clock.gives g.C.Clock.view) (g.N.NodeLine.asks c.args.bench.now.nodes) c.args.bench.now.moment (g.C.Clock.view c.args.clock.now).moment
    c.in-Over.spent (now_of g.N.NodeLine.state g.C.Clock.view c.args.bench.now))

pub returns-in-Asking-clause-attends : goal.returns-in-Asking-clause-attends
returns-in-Asking-clause-attends g c = c.hear.ensures.attends c.args.hub.now c.args.clock.now c.requires.attends

pub returns-in-Asking-clause-asked : goal.returns-in-Asking-clause-asked
returns-in-Asking-clause-asked g c = not_asked

pub returns-in-Over-clause-asked : goal.returns-in-Over-clause-asked
returns-in-Over-clause-asked g c = not_asked
