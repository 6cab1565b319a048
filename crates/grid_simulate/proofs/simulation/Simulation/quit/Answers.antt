use Rattle.std.proofs.Common.{refl}
use Rattle.grid_types.specs.Calls.{Call}
use Rattle.grid_simulate.specs.World.{world_of}
use Rattle.grid_simulate.proofs.HeldLemmas.{free_sound}
use Rattle.grid_simulate.proofs.CallLemmas.{quits_if_asked}
use Rattle.grid_simulate.proofs.simulation.Simulation.quit.Goals as goal

pub returns-clause-sound : goal.returns-clause-sound
returns-clause-sound c =
    let s = c.args.self.now in
    let after = free_sound s.hub c.freed.new.self (Call.freed c.args.closing) s.moment _ s.tickets.items s.tickets.items s.reservations.items s.reservations.items c.requires.sound.config_is refl refl (c.freed.ensures s.moment) (λ k. refl) (λ k x. refl) c.requires.sound.held in
    record { config_is = after.0; held = after.1 }

pub returns-clause-acts : goal.returns-clause-acts
returns-clause-acts c =
    let s = c.args.self.now in
    quits_if_asked c.args.closing (world_of s) s.hub c.freed.new.self _ c.ask_to_end-asked.result refl c.requires.sound.config_is (c.freed.ensures s.moment) c.ask_to_end-asked.ensures
