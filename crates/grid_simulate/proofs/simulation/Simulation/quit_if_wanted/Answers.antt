use Rattle.std.proofs.Common.{refl}
use Rattle.grid_types.specs.Calls.{Call}
use Rattle.grid_simulate.proofs.HeldLemmas.{free_sound}
use Rattle.grid_simulate.proofs.simulation.Simulation.quit_if_wanted.Goals as goal

pub returns-clause-sound : goal.returns-clause-sound
returns-clause-sound c =
    let s = c.args.self.now in
    let after = free_sound s.hub c.freed.new.self (Call.freed c.args.closing) s.moment _ s.tickets.items s.tickets.items s.reservations.items s.reservations.items c.requires.sound.config_is refl refl (c.freed.ensures s.moment) (λ k. refl) (λ k x. refl) c.requires.sound.held in
    record { config_is = after.0; held = after.1 }
