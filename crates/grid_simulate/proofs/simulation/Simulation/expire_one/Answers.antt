use Rattle.std.proofs.Common.{refl}
use Rattle.grid_types.specs.Calls.{Call}
use Rattle.grid_simulate.proofs.HeldLemmas.{roomed, free_sound}
use Rattle.grid_simulate.proofs.simulation.Simulation.expire_one.Goals as goal

pub quit_if_wanted-requires-clause-sound : goal.quit_if_wanted-requires-clause-sound
quit_if_wanted-requires-clause-sound c =
    let s = c.args.self.now in
    let room = roomed s.hub c.room.new.self s.tickets.items s.reservations.items c.in_ok-room.ensures.ok c.requires.config_is c.requires.held in
    let after = free_sound c.room.new.self c.expire.new.self Call.expire s.moment _ s.tickets.items s.tickets.items s.reservations.items s.reservations.items room.0 refl refl c.expire.ensures (λ k. refl) (λ k x. refl) room.1 in
    record { config_is = after.0; held = after.1 }

pub returns-in-Nothing-clause-sound : goal.returns-in-Nothing-clause-sound
returns-in-Nothing-clause-sound c =
    let s = c.args.self.now in
    let room = roomed s.hub c.room.new.self s.tickets.items s.reservations.items c.in_ok-room.ensures.ok c.requires.config_is c.requires.held in
    let after = free_sound c.room.new.self c.expire.new.self Call.expire s.moment _ s.tickets.items s.tickets.items s.reservations.items s.reservations.items room.0 refl refl c.expire.ensures (λ k. refl) (λ k x. refl) room.1 in
    record { config_is = after.0; held = after.1 }
