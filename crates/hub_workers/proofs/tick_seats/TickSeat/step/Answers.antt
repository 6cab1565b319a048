use Rattle.std.proofs.Common.{refl, subst, sym}
use Rattle.hub_cell.specs.Passes.{knows}
use Rattle.hub_workers.specs.Amid.{Amid}
use Rattle.hub_workers.specs.Benches.{now_of}
use Rattle.hub_workers.specs.SharedClock.{SharedTells}
use Rattle.hub_workers.specs.TickSeats.{first_of}
use Rattle.hub_workers.specs.TickStages.{TickGoes, TickSays, Ticking}
use Rattle.hub_workers.specs.Turns.{TickerTurn}
use Rattle.hub_workers.specs.declared.tick_steps.TickStage.{TickStage}
use Rattle.hub_workers.proofs.AmidLemmas.{amid_on}
use Rattle.hub_workers.proofs.tick_seats.TickSeat.step.Goals as goal

pub tick_on-next-requires-clause-ticks : goal.tick_on-next-requires-clause-ticks
tick_on-next-requires-clause-ticks g c = (
  c.requires.at_work.amid.own,
  subst (λ (s : TickStage). Ticking c.args.hub.now (g.N.NodeLine.asks c.args.self.now.bench.nodes) s (knows c.args.self.now.bench.pass) c.requires.at_work.amid.own) (sym c.replace-stage.ensures.value) c.requires.at_work.amid.so,
)

pub returns-clause-on : goal.returns-clause-on
returns-clause-on g c =
    let first = first_of g.N.NodeLine.state g.C.Clock.view c.args.self.now in
    let old = now_of g.N.NodeLine.state g.C.Clock.view c.args.self.now.bench in
    let new = now_of g.N.NodeLine.state g.C.Clock.view c.tick_on-next.new.bench in
    let goes = subst (λ (s : TickStage). TickGoes c.args.hub.now g.N.NodeLine.state g.N.NodeLine.gives g.N.NodeLine.asks g.C.Clock.gives g.C.Clock.view c.tick_on-next.new.clock s c.args.self.now.bench c.tick_on-next.result c.tick_on-next.new.bench) c.replace-stage.ensures.value c.tick_on-next.ensures.goes in
    record {
      same = refl;
      at_work = record {
        attends = c.tick_on-next.ensures.attends;
        amid = subst (λ (s : TickStage). Amid c.args.hub.now g.N.NodeLine.gives (SharedTells g.C.Clock.gives g.C.Clock.view) TickerTurn (Ticking c.args.hub.now (g.N.NodeLine.asks c.tick_on-next.new.bench.nodes) s) first new) (sym c.put.ensures)
            (amid_on c.args.hub.now g.N.NodeLine.gives (SharedTells g.C.Clock.gives g.C.Clock.view) TickerTurn
            (Ticking c.args.hub.now (g.N.NodeLine.asks c.args.self.now.bench.nodes) c.args.self.now.stage) (Ticking c.args.hub.now (g.N.NodeLine.asks c.tick_on-next.new.bench.nodes) c.tick_on-next.result.0)
            (TickSays c.tick_on-next.result.1 c.args.self.now.bench.moment (g.C.Clock.view c.tick_on-next.new.clock).moment c.args.self.now.stage c.tick_on-next.result.0) first old new c.requires.at_work.amid goes);
      };
    }

pub returns-clause-did : goal.returns-clause-did
returns-clause-did g c =
    let goes = subst (λ (s : TickStage). TickGoes c.args.hub.now g.N.NodeLine.state g.N.NodeLine.gives g.N.NodeLine.asks g.C.Clock.gives g.C.Clock.view c.tick_on-next.new.clock s c.args.self.now.bench c.tick_on-next.result c.tick_on-next.new.bench) c.replace-stage.ensures.value c.tick_on-next.ensures.goes in
    let went = goes c.requires.at_work.amid.own c.requires.at_work.amid.so in
    record {
      steps = went.more;
      went = went.went;
      says = subst (λ (s : TickStage). TickSays c.tick_on-next.result.1 c.args.self.now.bench.moment (g.C.Clock.view c.tick_on-next.new.clock).moment c.args.self.now.stage s went.more) (sym c.put.ensures) went.did;
    }
