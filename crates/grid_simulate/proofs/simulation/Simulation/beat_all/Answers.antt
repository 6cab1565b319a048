use Rattle.grid_simulate.specs.World.{world_of}
use Rattle.grid_simulate.proofs.LoopLemmas.{beaten_none, beaten_more}
use Rattle.grid_simulate.proofs.simulation.Simulation.beat_all.Goals as goal
use Rattle.std.proofs.Common.{refl, ◌∙◌}

pub loop-i-init : goal.loop-i-init
loop-i-init c = record { sound = c.requires; moment = refl; beat = beaten_none (world_of c.args.self.now) }

pub loop-i-preserved : goal.loop-i-preserved
loop-i-preserved c = record {
  sound = c.beat.ensures.sound;
  moment = c.beat.ensures.moment ∙ c.loop-i.invariant.moment;
  beat = beaten_more c.loop-i.i (world_of c.args.self.now) (world_of c.loop-i.self) (world_of c.beat.new.self) c.loop-i.invariant.beat c.in_ok-beat.ensures.acts;
}
