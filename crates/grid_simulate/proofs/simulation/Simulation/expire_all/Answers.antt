use Rattle.std.proofs.Common.{refl, subst, ◌∙◌}
use Rattle.grid_simulate.specs.declared.actions.sessions.Idle.{Idle}
use Rattle.grid_simulate.specs.Looks.{Looked}
use Rattle.grid_simulate.specs.World.{world_of}
use Rattle.grid_simulate.proofs.LoopLemmas.{ends_one, ends_over}
use Rattle.grid_simulate.proofs.simulation.Simulation.expire_all.Goals as goal

pub loop-look-init : goal.loop-look-init
loop-look-init c = record { sound = c.requires; moment = refl; goes_on = λ v h. h }

pub loop-look-preserved : goal.loop-look-preserved
loop-look-preserved c = record {
  sound = c.expire_one.ensures.sound;
  moment = c.expire_one.ensures.moment ∙ c.loop-look.invariant.moment;
  goes_on = λ v h. c.loop-look.invariant.goes_on v (ends_one (world_of c.loop-look.self) (world_of c.expire_one.new.self) v
      (subst (λ (i : Idle). Looked i (world_of c.loop-look.self) (world_of c.expire_one.new.self)) c.in-Ended.is c.in_ok-expire_one.ensures.acts) h);
}

pub returns-in-Over-clause-acts : goal.returns-in-Over-clause-acts
returns-in-Over-clause-acts c = c.loop-look.invariant.goes_on (world_of c.expire_one.new.self) (ends_over (world_of c.loop-look.self) (world_of c.expire_one.new.self)
    (subst (λ (i : Idle). Looked i (world_of c.loop-look.self) (world_of c.expire_one.new.self)) c.in-Over.is c.in_ok-expire_one.ensures.acts))
