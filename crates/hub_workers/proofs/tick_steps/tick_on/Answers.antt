use Rattle.std.proofs.Common.{subst, sym}
use Rattle.hub_cell.specs.Passes.{knows}
use Rattle.hub_workers.specs.Benches.{now_of}
use Rattle.hub_workers.specs.SharedClock.{SharedTells, not_asked}
use Rattle.hub_workers.specs.TickStages.{TickGoes, Ticking}
use Rattle.hub_workers.specs.declared.acts.WorkAct.TheVariants as acts
use Rattle.hub_workers.specs.declared.tick_steps.TickStage.{TickStage}
use Rattle.hub_workers.specs.declared.tick_steps.TickStage.TheVariants as stages
use Rattle.hub_workers.proofs.TickStageLemmas.{over_again}
use Rattle.hub_workers.proofs.tick_steps.tick_on.Goals as goal

pub look-requires-clause-idle : goal.look-requires-clause-idle
look-requires-clause-idle g c =
    let works = subst (λ (s : TickStage). Ticking c.args.hub.now (g.N.NodeLine.asks c.args.bench.now.nodes) s (knows c.args.bench.now.pass) c.requires.ticks.0) c.in-Looking.is c.requires.ticks.1 in
    works.1

pub free-requires-clause-has : goal.free-requires-clause-has
free-requires-clause-has g c =
    let works = subst (λ (s : TickStage). Ticking c.args.hub.now (g.N.NodeLine.asks c.args.bench.now.nodes) s (knows c.args.bench.now.pass) c.requires.ticks.0) c.in-Freeing.is c.requires.ticks.1 in
    works.3

pub returns-in-Between-clause-goes : goal.returns-in-Between-clause-goes
returns-in-Between-clause-goes g c =
    subst (λ (s : TickStage). TickGoes c.args.hub.now g.N.NodeLine.state g.N.NodeLine.gives g.N.NodeLine.asks g.C.Clock.gives g.C.Clock.view c.sweep.new.clock s c.args.bench.now c.sweep.result c.sweep.new.bench) (sym c.in-Between.is) (c.sweep.ensures.goes)

pub returns-in-Looking-clause-goes : goal.returns-in-Looking-clause-goes
returns-in-Looking-clause-goes g c =
    subst (λ (s : TickStage). TickGoes c.args.hub.now g.N.NodeLine.state g.N.NodeLine.gives g.N.NodeLine.asks g.C.Clock.gives g.C.Clock.view c.look.new.clock s c.args.bench.now c.look.result c.look.new.bench) (sym c.in-Looking.is) (c.look.ensures.goes)

pub returns-in-Asking-clause-goes : goal.returns-in-Asking-clause-goes
returns-in-Asking-clause-goes g c =
    subst (λ (s : TickStage). TickGoes c.args.hub.now g.N.NodeLine.state g.N.NodeLine.gives g.N.NodeLine.asks g.C.Clock.gives g.C.Clock.view c.args.clock.now s c.args.bench.now c.hear.result c.hear.new.bench) (sym c.in-Asking.is) (c.hear.ensures.goes c.args.hub.now c.args.clock.now)

pub returns-in-Freeing-clause-goes : goal.returns-in-Freeing-clause-goes
returns-in-Freeing-clause-goes g c =
    subst (λ (s : TickStage). TickGoes c.args.hub.now g.N.NodeLine.state g.N.NodeLine.gives g.N.NodeLine.asks g.C.Clock.gives g.C.Clock.view c.free.new.clock s c.args.bench.now c.free.result c.free.new.bench) (sym c.in-Freeing.is) (c.free.ensures.goes)

pub returns-in-Pausing-clause-goes : goal.returns-in-Pausing-clause-goes
returns-in-Pausing-clause-goes g c =
    subst (λ (s : TickStage). TickGoes c.args.hub.now g.N.NodeLine.state g.N.NodeLine.gives g.N.NodeLine.asks g.C.Clock.gives g.C.Clock.view c.rest.new.clock s c.args.bench.now c.rest.result c.rest.new.bench) (sym c.in-Pausing.is) (c.rest.ensures.goes c.args.hub.now)

pub returns-in-Over-clause-goes : goal.returns-in-Over-clause-goes
returns-in-Over-clause-goes g c =
    subst (λ (s : TickStage). TickGoes c.args.hub.now g.N.NodeLine.state g.N.NodeLine.gives g.N.NodeLine.asks g.C.Clock.gives g.C.Clock.view c.args.clock.now s c.args.bench.now (stages.Over c.in-Over.spent, acts.Over c.in-Over.spent) c.args.bench.now) (sym c.in-Over.is)
    (over_again c.args.hub.now g.N.NodeLine.gives (SharedTells g.C.Clock.gives g.C.Clock.view) (g.N.NodeLine.asks c.args.bench.now.nodes) c.args.bench.now.moment (g.C.Clock.view c.args.clock.now).moment
    c.in-Over.spent (now_of g.N.NodeLine.state g.C.Clock.view c.args.bench.now))

pub returns-in-Asking-clause-attends : goal.returns-in-Asking-clause-attends
returns-in-Asking-clause-attends g c = c.hear.ensures.attends c.args.hub.now c.args.clock.now c.requires.attends

pub returns-in-Asking-clause-asked : goal.returns-in-Asking-clause-asked
returns-in-Asking-clause-asked g c = not_asked

pub returns-in-Over-clause-asked : goal.returns-in-Over-clause-asked
returns-in-Over-clause-asked g c = not_asked
