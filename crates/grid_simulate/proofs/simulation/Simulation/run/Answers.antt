use Rattle.std.proofs.Common.{◌≡◌, ℕ, subst, arith}
use Rattle.grid_simulate.specs.World.{world_of}
use Rattle.grid_simulate.specs.Simulates.{Steps, none_yet, one_more}
use Rattle.grid_simulate.proofs.simulation.Simulation.run.Goals as goal

pub loop-done-init : goal.loop-done-init
loop-done-init c = record { sound = c.requires.sound; moment = omega (arith, c.requires.first); steps = none_yet (world_of c.args.self.now) }

pub loop-done-preserved : goal.loop-done-preserved
loop-done-preserved c = record {
  sound = c.step.ensures.sound;
  moment = omega (arith, c.step.ensures.moment, c.loop-done.invariant.moment);
  steps = one_more c.loop-done.done (world_of c.args.self.now) (world_of c.loop-done.self) (world_of c.step.new.self) c.loop-done.invariant.steps c.in_ok-step.ensures.steps;
}

pub returns-clause-steps : goal.returns-clause-steps
returns-clause-steps c =
    let all : c.loop-done.done ≡ 2_000 = omega (arith, c.loop-done-test.false, c.loop-done.auto.done-end) in
    subst (λ (n : ℕ). Steps n (world_of c.args.self.now) (world_of c.loop-done.self)) all c.loop-done.invariant.steps
