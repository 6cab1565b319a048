use Rattle.std.proofs.Common.{refl}
use Rattle.grid_types.specs.Calls.{Call}
use Rattle.grid_simulate.proofs.HeldLemmas.{roomed, free_sound}
use Rattle.grid_simulate.proofs.simulation.Simulation.end_kept.Goals as goal

pub quit-requires-clause-sound : goal.quit-requires-clause-sound
quit-requires-clause-sound c =
    let s = c.args.self.now in
    let room = roomed s.hub c.room.new.self s.tickets.items s.reservations.items c.in_ok-room.ensures.ok c.requires.config_is c.requires.held in
    let after = free_sound c.room.new.self c.end.new.self (Call.end c.args.kept.now.session c.args.kept.now.binding) s.moment _ s.tickets.items s.tickets.items s.reservations.items s.reservations.items room.0 refl refl c.end.ensures (λ k. refl) (λ k x. refl) room.1 in
    record { config_is = after.0; held = after.1 }

pub returns-in-NoSession-clause-sound : goal.returns-in-NoSession-clause-sound
returns-in-NoSession-clause-sound c =
    let s = c.args.self.now in
    let room = roomed s.hub c.room.new.self s.tickets.items s.reservations.items c.in_ok-room.ensures.ok c.requires.config_is c.requires.held in
    let after = free_sound c.room.new.self c.end.new.self (Call.end c.args.kept.now.session c.args.kept.now.binding) s.moment _ s.tickets.items s.tickets.items s.reservations.items s.reservations.items room.0 refl refl c.end.ensures (λ k. refl) (λ k x. refl) room.1 in
    record { config_is = after.0; held = after.1 }
