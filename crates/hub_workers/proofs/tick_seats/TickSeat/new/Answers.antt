use Rattle.std.proofs.Common.{◌∙◌, ap, refl, subst, sym}
use Rattle.std.specs.Prelude.{None}
use Rattle.hub_cell.specs.declared.hub.Pass.{Pass}
use Rattle.hub_cell.specs.Passes.{IsOf}
use Rattle.hub_workers.specs.Benches.{now_of}
use Rattle.hub_workers.specs.SharedClock.{SharedTells}
use Rattle.hub_workers.specs.TickStages.{Ticking}
use Rattle.hub_workers.specs.Turns.{TickerTurn}
use Rattle.hub_workers.specs.declared.tick_steps.TickStage.TheVariants as stages
use Rattle.hub_workers.proofs.AmidLemmas.{amid_start, now_is}
use Rattle.hub_workers.proofs.tick_seats.TickSeat.new.Goals as goal

pub returns-clause-at_work : goal.returns-clause-at_work
returns-clause-at_work g c hub own =
    let bench = c.new-bench.result in
    record {
      attends = record { own = subst (λ (p : Pass). IsOf hub p) (sym c.new-bench.ensures.pass) own; remembers = c.new-bench.ensures.remembers };
      amid = amid_start hub g.N.NodeLine.gives (SharedTells g.C.Clock.gives g.C.Clock.view) TickerTurn (Ticking hub (g.N.NodeLine.asks bench.nodes) stages.Between)
          (now_of g.N.NodeLine.state g.C.Clock.view c.of-first.result.value) (now_of g.N.NodeLine.state g.C.Clock.view bench) (ap (now_of g.N.NodeLine.state g.C.Clock.view) c.of-first.ensures)
          (refl, subst (λ (n : g.row.N.Denot). g.N.NodeLine.asks n None) (sym c.new-bench.ensures.nodes) c.requires.idle);
    }

pub returns-clause-first : goal.returns-clause-first
returns-clause-first g c =
    ap (now_of g.N.NodeLine.state g.C.Clock.view) c.of-first.ensures
    ∙ now_is g.N.NodeLine.state g.C.Clock.view c.new-bench.result c.args.pass c.args.nodes c.new-bench.new.clock c.new-bench.ensures.pass c.new-bench.ensures.nodes c.new-bench.ensures.last
