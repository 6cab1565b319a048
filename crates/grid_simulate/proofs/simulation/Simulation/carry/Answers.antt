use Rattle.std.proofs.Common.{List, refl, sym, subst, ◌∙◌}
use Rattle.std.specs.List.{slice_get}
use Rattle.grid_types.specs.Tokens.{Reservation}
use Rattle.hub_core.specs.HubView.{past}
use Rattle.grid_simulate.specs.Held.{AreHeld}
use Rattle.grid_simulate.specs.World.{world_of}
use Rattle.grid_simulate.proofs.HeldLemmas.{start_good, start_held}
use Rattle.grid_simulate.proofs.LoopLemmas.{start_made}
use Rattle.grid_simulate.proofs.simulation.Simulation.carry.Goals as goal

pub carry_out-requires : goal.carry_out-requires
carry_out-requires c =
    let s = c.args.self.now in
    start_good (past s.hub) s.tickets.items s.reservations.items c.args.place c.take_out-reservation.result c.take_out-reservation.ensures.found c.requires.sound.held

pub returns-clause-sound : goal.returns-clause-sound
returns-clause-sound c =
    let s = c.args.self.now in
    let went = c.carry_out.ensures.went in
    record {
      config_is = went.config ∙ c.requires.sound.config_is;
      held = subst (λ (l : List Reservation). AreHeld (past c.carry_out.new.hub) s.tickets.items l) (sym c.take_out-reservation.ensures.rest)
          (start_held (past s.hub) (past c.carry_out.new.hub) s.tickets.items s.reservations.items c.args.place c.take_out-reservation.result c.take_out-reservation.ensures.found went.keeps_tickets went.keeps_reservations c.requires.sound.held);
    }

pub returns-clause-starts : goal.returns-clause-starts
returns-clause-starts c = λ full.
    let s = c.args.self.now in
    start_made (world_of s) c.args.place c.take_out-reservation.result (slice_get s.reservations.items c.args.place) s.hub c.carry_out.new.hub _ c.carry_out.result.0 c.carry_out.result.1 _ _
    c.take_out-reservation.ensures.found refl c.requires.sound.config_is c.carry_out.ensures full c.take_out-reservation.ensures.rest refl
