use Rattle.std.proofs.Common.{List, ◌++◌, ◌∷◌, [], refl, sym, ap, subst, ◌∙◌}
use Rattle.std.specs.Prelude.{Some, None}
use Rattle.std.specs.List.{remove, insert}
use Rattle.grid_types.specs.Tokens.{Ticket, Reservation}
use Rattle.grid_types.specs.Calls.{Call, Reply}
use Rattle.hub_core.specs.HubView.{past, ServesLocally}
use Rattle.hub_core.specs.declared.answers.Polled.{Polled}
use Rattle.hub_core.specs.Replies.{polled_reply}
use Rattle.grid_simulate.specs.Held.{AreHeld}
use Rattle.grid_simulate.proofs.HeldLemmas.{may_poll, poll_others, poll_not_yet_held, poll_yours_held, poll_lack_held}
use Rattle.grid_simulate.specs.World.{world_of}
use Rattle.grid_simulate.proofs.CallLemmas.{goes, polled_not_yet, polled_yours, polled_settled}
use Rattle.grid_simulate.proofs.simulation.Simulation.poll_at.Goals as goal

pub poll-requires : goal.poll-requires
poll-requires c = may_poll (past c.args.self.now.hub) c.args.self.now.tickets.items c.args.self.now.reservations.items c.args.place c.take_out-ticket.result c.take_out-ticket.ensures.found c.requires.sound.held

pub returns-in-NotYet-clause-sound : goal.returns-in-NotYet-clause-sound
returns-in-NotYet-clause-sound c =
    let s = c.args.self.now in
    let t = c.take_out-ticket.result in
    let serves = subst (λ (a : Polled). ServesLocally s.hub (Call.poll t) s.moment (polled_reply a) c.poll.new.self) c.in-NotYet.is c.poll.ensures.serves in
    let held = poll_not_yet_held s.hub c.poll.new.self s.moment (Some (Reply.not_yet c.in-NotYet.ticket)) c.args.place t c.in-NotYet.ticket s.tickets.items s.reservations.items c.requires.sound.config_is c.take_out-ticket.ensures.found refl serves c.requires.sound.held in
    record {
      config_is = serves.same_config ∙ c.requires.sound.config_is;
      held = subst (λ (l : List Ticket). AreHeld (past c.poll.new.self) l c.reserve.new.self.items) (sym (c.put_in.ensures ∙ ap (λ (l : List Ticket). insert l c.args.place c.in-NotYet.ticket) c.take_out-ticket.ensures.rest))
          (subst (λ (l : List Reservation). AreHeld (past c.poll.new.self) (insert (remove s.tickets.items c.args.place) c.args.place c.in-NotYet.ticket) l) (sym c.reserve.ensures.items) held.0);
    }

pub returns-in-Yours-clause-sound : goal.returns-in-Yours-clause-sound
returns-in-Yours-clause-sound c =
    let s = c.args.self.now in
    let t = c.take_out-ticket.result in
    let serves = subst (λ (a : Polled). ServesLocally s.hub (Call.poll t) s.moment (polled_reply a) c.poll.new.self) c.in-Yours.is c.poll.ensures.serves in
    let held = poll_yours_held s.hub c.poll.new.self s.moment (Some (Reply.yours c.in-Yours.ticket c.in-Yours.reservation)) c.args.place t c.in-Yours.ticket c.in-Yours.reservation s.tickets.items s.reservations.items c.requires.sound.config_is c.chosen_is_first.ensures.fits c.take_out-ticket.ensures.found refl serves c.requires.sound.held in
    record {
      config_is = serves.same_config ∙ c.requires.sound.config_is;
      held = subst (λ (l : List Ticket). AreHeld (past c.poll.new.self) l c.put_last.new.items.items) (sym (c.put_in-in-Yours.ensures ∙ ap (λ (l : List Ticket). insert l c.args.place c.in-Yours.ticket) c.take_out-ticket.ensures.rest))
          (subst (λ (l : List Reservation). AreHeld (past c.poll.new.self) (insert (remove s.tickets.items c.args.place) c.args.place c.in-Yours.ticket) l) (sym (c.put_last.ensures ∙ ap (λ (l : List Reservation). l ++ c.in-Yours.reservation ∷ []) c.reserve.ensures.items)) held.0);
    }

pub returns-in-Settled-clause-sound : goal.returns-in-Settled-clause-sound
returns-in-Settled-clause-sound c =
    let s = c.args.self.now in
    let t = c.take_out-ticket.result in
    let held = poll_others s.hub c.poll.new.self s.moment _ c.args.place t s.tickets.items s.reservations.items c.take_out-ticket.ensures.found c.poll.ensures.serves c.requires.sound.held in
    record {
      config_is = c.poll.ensures.serves.same_config ∙ c.requires.sound.config_is;
      held = subst (λ (l : List Ticket). AreHeld (past c.poll.new.self) l c.reserve.new.self.items) (sym c.take_out-ticket.ensures.rest)
          (subst (λ (l : List Reservation). AreHeld (past c.poll.new.self) (remove s.tickets.items c.args.place) l) (sym c.reserve.ensures.items) held);
    }

pub returns-clause-sound : goal.returns-clause-sound
returns-clause-sound c =
    let s = c.args.self.now in
    let t = c.take_out-ticket.result in
    let serves = subst (λ (a : Polled). ServesLocally s.hub (Call.poll t) s.moment (polled_reply a) c.poll.new.self) c.in-Memory.is c.poll.ensures.serves in
    let held = poll_lack_held s.hub c.poll.new.self s.moment None c.args.place t c.in-Memory.ticket s.tickets.items s.reservations.items c.take_out-ticket.ensures.found refl c.in-Memory.ensures.back serves c.requires.sound.held in
    record {
      config_is = serves.same_config ∙ c.requires.sound.config_is;
      held = subst (λ (l : List Ticket). AreHeld (past c.poll.new.self) l c.reserve.new.self.items) (sym (c.put_in-in-Memory.ensures ∙ ap (λ (l : List Ticket). insert l c.args.place c.in-Memory.ticket) c.take_out-ticket.ensures.rest))
          (subst (λ (l : List Reservation). AreHeld (past c.poll.new.self) (insert (remove s.tickets.items c.args.place) c.args.place c.in-Memory.ticket) l) (sym c.reserve.ensures.items) held);
    }

pub returns-in-NotYet-clause-acts : goal.returns-in-NotYet-clause-acts
returns-in-NotYet-clause-acts c =
    let s = c.args.self.now in
    let w = world_of s in
    let t = c.take_out-ticket.result in
    let u = c.in-NotYet.ticket in
    let serves = subst (λ (a : Polled). ServesLocally s.hub (Call.poll t) s.moment (polled_reply a) c.poll.new.self) c.in-NotYet.is c.poll.ensures.serves in
    let held = poll_not_yet_held s.hub c.poll.new.self s.moment (Some (Reply.not_yet u)) c.args.place t u s.tickets.items s.reservations.items c.requires.sound.config_is c.take_out-ticket.ensures.found refl serves c.requires.sound.held in
    let back = c.put_in.ensures ∙ ap (λ (l : List Ticket). insert l c.args.place u) c.take_out-ticket.ensures.rest ∙ held.1 in
    ap (λ (l : List Reservation). record w { history = past c.poll.new.self; tickets = c.put_in.new.items.items; reservations = l }) c.reserve.ensures.items
    ∙ polled_not_yet w c.args.place t u c.poll.new.self c.put_in.new.items.items c.take_out-ticket.ensures.found (goes w s.hub c.poll.new.self (Call.poll t) (Some (Reply.not_yet u)) (Reply.not_yet u) refl c.requires.sound.config_is refl serves) back

pub returns-in-Yours-clause-acts : goal.returns-in-Yours-clause-acts
returns-in-Yours-clause-acts c =
    let s = c.args.self.now in
    let w = world_of s in
    let t = c.take_out-ticket.result in
    let u = c.in-Yours.ticket in
    let r = c.in-Yours.reservation in
    let serves = subst (λ (a : Polled). ServesLocally s.hub (Call.poll t) s.moment (polled_reply a) c.poll.new.self) c.in-Yours.is c.poll.ensures.serves in
    let held = poll_yours_held s.hub c.poll.new.self s.moment (Some (Reply.yours u r)) c.args.place t u r s.tickets.items s.reservations.items c.requires.sound.config_is c.chosen_is_first.ensures.fits c.take_out-ticket.ensures.found refl serves c.requires.sound.held in
    let back = c.put_in-in-Yours.ensures ∙ ap (λ (l : List Ticket). insert l c.args.place u) c.take_out-ticket.ensures.rest ∙ held.1 in
    polled_yours w c.args.place t u r c.poll.new.self c.put_in-in-Yours.new.items.items c.put_last.new.items.items c.take_out-ticket.ensures.found
    (goes w s.hub c.poll.new.self (Call.poll t) (Some (Reply.yours u r)) (Reply.yours u r) refl c.requires.sound.config_is refl serves) back
    (c.put_last.ensures ∙ ap (λ (l : List Reservation). l ++ r ∷ []) c.reserve.ensures.items)

pub returns-in-Settled-clause-acts : goal.returns-in-Settled-clause-acts
returns-in-Settled-clause-acts c =
    let s = c.args.self.now in
    let w = world_of s in
    let t = c.take_out-ticket.result in
    let o = c.in-Settled.field-0 in
    let serves = subst (λ (a : Polled). ServesLocally s.hub (Call.poll t) s.moment (polled_reply a) c.poll.new.self) c.in-Settled.is c.poll.ensures.serves in
    ap (λ (l : List Reservation). record w { history = past c.poll.new.self; tickets = c.take_out-ticket.new.items.items; reservations = l }) c.reserve.ensures.items
    ∙ polled_settled w c.args.place t o c.poll.new.self c.take_out-ticket.new.items.items c.take_out-ticket.ensures.found (goes w s.hub c.poll.new.self (Call.poll t) (Some (Reply.settled o)) (Reply.settled o) refl c.requires.sound.config_is refl serves)
    c.take_out-ticket.ensures.rest
