use Rattle.std.proofs.Common.{rules, ◌+◌, ◌<◌, length, refl, sym, ◌∙◌}
use Rattle.hub_core.specs.HubView.{past}
use Rattle.grid_simulate.specs.World.{world_of}
use Rattle.grid_simulate.specs.Simulates.{settled}
use Rattle.grid_simulate.proofs.LoopLemmas.{both_true, ok_of, polls_more}
use Rattle.grid_simulate.proofs.simulation.Simulation.settle.Goals as goal

pub polls-init : goal.polls-init
polls-init c = record { sound = record { config_is = c.requires.sound.config_is; held = c.requires.sound.held }; moment = refl; left = λ full. refl }

pub polls-preserved : goal.polls-preserved
polls-preserved c =
    let first = world_of c.args.self.now in
    let some : 0 < length c.polls.self.tickets.items = search rules in
    record {
      sound = c.poll_first.ensures.sound;
      moment = c.poll_first.ensures.moment ∙ c.polls.invariant.moment;
      left = λ full.
          let each = both_true c.is_ok-polled.result c.polls.full (sym c.both-full.ensures ∙ full) in
          polls_more (record first { moment = c.args.self.now.moment + 60_000 }) (world_of c.polls.self) (past c.poll_first.new.self.hub) c.polls.self.tickets.items c.poll_first.new.self.tickets.items (settled first).history
          some c.polls.invariant.moment (ok_of c.poll_first.result c.is_ok-polled.result c.is_ok-polled.ensures.value each.0 c.poll_first.ensures.polled) c.poll_first.ensures.rest (c.polls.invariant.left each.1);
    }
