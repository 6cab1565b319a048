use Rattle.std.proofs.Common.{refl}
use Rattle.std.specs.Prelude.{None}
use Rattle.grid_types.specs.Calls.{Call}
use Rattle.grid_simulate.proofs.HeldLemmas.{roomed, free_sound}
use Rattle.grid_simulate.proofs.simulation.Simulation.beat.Goals as goal

pub returns-clause-sound : goal.returns-clause-sound
returns-clause-sound c =
    let s = c.args.self.now in
    let room = roomed s.hub c.room.new.self s.tickets.items s.reservations.items c.in_ok-room.ensures.ok c.requires.config_is c.requires.held in
    let after = free_sound c.room.new.self c.beat.new.self (Call.beat c.args.node None) s.moment _ s.tickets.items s.tickets.items s.reservations.items s.reservations.items room.0 refl refl c.beat.ensures (λ k. refl) (λ k x. refl) room.1 in
    record { config_is = after.0; held = after.1 }
