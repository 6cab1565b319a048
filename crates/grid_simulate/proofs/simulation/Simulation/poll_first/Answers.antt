use Rattle.std.proofs.Common.{List, sym, subst, ◌∙◌}
use Rattle.grid_types.specs.Tokens.{Ticket}
use Rattle.hub_core.specs.HubView.{past}
use Rattle.grid_simulate.specs.Held.{AreHeld}
use Rattle.grid_simulate.proofs.HeldLemmas.{may_poll, poll_others}
use Rattle.grid_simulate.proofs.simulation.Simulation.poll_first.Goals as goal

pub poll-requires : goal.poll-requires
poll-requires c = may_poll (past c.args.self.now.hub) c.args.self.now.tickets.items c.args.self.now.reservations.items 0 c.take_out-ticket.result c.take_out-ticket.ensures.found c.requires.sound.held

pub returns-in-NotYet-clause-sound : goal.returns-in-NotYet-clause-sound
returns-in-NotYet-clause-sound c =
    let s = c.args.self.now in
    record {
      config_is = c.poll.ensures.serves.same_config ∙ c.requires.sound.config_is;
      held = subst (λ (l : List Ticket). AreHeld (past c.poll.new.self) l s.reservations.items) (sym c.take_out-ticket.ensures.rest)
          (poll_others s.hub c.poll.new.self s.moment _ 0 c.take_out-ticket.result s.tickets.items s.reservations.items c.take_out-ticket.ensures.found c.poll.ensures.serves c.requires.sound.held);
    }

pub returns-in-Yours-clause-sound : goal.returns-in-Yours-clause-sound
returns-in-Yours-clause-sound c =
    let s = c.args.self.now in
    record {
      config_is = c.poll.ensures.serves.same_config ∙ c.requires.sound.config_is;
      held = subst (λ (l : List Ticket). AreHeld (past c.poll.new.self) l s.reservations.items) (sym c.take_out-ticket.ensures.rest)
          (poll_others s.hub c.poll.new.self s.moment _ 0 c.take_out-ticket.result s.tickets.items s.reservations.items c.take_out-ticket.ensures.found c.poll.ensures.serves c.requires.sound.held);
    }

pub returns-in-Settled-clause-sound : goal.returns-in-Settled-clause-sound
returns-in-Settled-clause-sound c =
    let s = c.args.self.now in
    record {
      config_is = c.poll.ensures.serves.same_config ∙ c.requires.sound.config_is;
      held = subst (λ (l : List Ticket). AreHeld (past c.poll.new.self) l s.reservations.items) (sym c.take_out-ticket.ensures.rest)
          (poll_others s.hub c.poll.new.self s.moment _ 0 c.take_out-ticket.result s.tickets.items s.reservations.items c.take_out-ticket.ensures.found c.poll.ensures.serves c.requires.sound.held);
    }

pub returns-in-Memory-clause-sound : goal.returns-in-Memory-clause-sound
returns-in-Memory-clause-sound c =
    let s = c.args.self.now in
    record {
      config_is = c.poll.ensures.serves.same_config ∙ c.requires.sound.config_is;
      held = subst (λ (l : List Ticket). AreHeld (past c.poll.new.self) l s.reservations.items) (sym c.take_out-ticket.ensures.rest)
          (poll_others s.hub c.poll.new.self s.moment _ 0 c.take_out-ticket.result s.tickets.items s.reservations.items c.take_out-ticket.ensures.found c.poll.ensures.serves c.requires.sound.held);
    }
