use Rattle.std.proofs.Common.{rules, ◌<◌, length, refl, sym, ◌∙◌}
use Rattle.grid_simulate.specs.World.{world_of}
use Rattle.grid_simulate.proofs.LoopLemmas.{both_true, ok_of, starts_more}
use Rattle.grid_simulate.proofs.simulation.Simulation.start_all.Goals as goal

pub starts-init : goal.starts-init
starts-init c = record { sound = c.requires; moment = refl; goes_on = λ full v h. h }

pub starts-preserved : goal.starts-preserved
starts-preserved c =
    let now = world_of c.starts.self in
    let some : 0 < length c.starts.self.reservations.items = search rules in
    record {
      sound = c.start_at.ensures.sound;
      moment = c.start_at.ensures.moment ∙ c.starts.invariant.moment;
      goes_on = λ full v h.
          let each = both_true c.is_ok-made.result c.starts.full (sym c.both-full.ensures ∙ full) in
          starts_more (world_of c.args.self.now) now (world_of c.start_at.new.self) c.starts.self.reservations.items refl some
          (ok_of c.start_at.result c.is_ok-made.result c.is_ok-made.ensures.value each.0 c.start_at.ensures.acts) c.start_at.ensures.rest (c.starts.invariant.goes_on each.1) v h;
    }
