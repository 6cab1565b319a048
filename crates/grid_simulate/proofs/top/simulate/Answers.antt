use Rattle.std.proofs.Common.{rules, refl, sym, subst, ◌∙◌}
use Rattle.grid_simulate.specs.World.{World, world_of}
use Rattle.grid_simulate.specs.Simulates.{Steps}
use Rattle.grid_simulate.proofs.LoopLemmas.{both_true, ok_of}
use Rattle.grid_simulate.proofs.JournalLemmas.{simulated_is}
use Rattle.grid_simulate.proofs.top.simulate.Goals as goal

pub returns-then-full : goal.returns-then-full
returns-then-full c =
    let all = both_true c.is_ok-settled.result c.both-made.result (sym c.both-full.ensures ∙ c.if-full.true) in
    let made = both_true c.is_ok-started.result c.is_ok-ran.result (sym c.both-made.ensures ∙ all.1) in
    let steps = ok_of c.run.result c.is_ok-ran.result c.is_ok-ran.ensures.value made.1 c.run.ensures.steps in
    let starts = ok_of c.start_all.result c.is_ok-started.result c.is_ok-started.ensures.value made.0 c.start_all.ensures.starts in
    let settled = ok_of c.settle.result c.is_ok-settled.result c.is_ok-settled.ensures.value all.0 c.settle.ensures.settled in
    simulated_is c.args.number _ (world_of c.run.new.self) (world_of c.start_all.new.self) c.in_ok-summary.summary c.start_all.new.self.hub c.settle.new.self.hub
    (subst (λ (w : World). Steps 2_000 w (world_of c.run.new.self)) c.in_ok-simulation.ensures.crew steps) starts refl (search rules) c.in_ok-summary.ensures settled c.settle.ensures.sound.config_is
