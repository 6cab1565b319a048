use Rattle.std.proofs.Common.{List, ◌++◌, ◌∷◌, [], refl, sym, ap, subst, ◌∙◌}
use Rattle.std.specs.Prelude.{Some}
use Rattle.grid_types.specs.Tokens.{Ticket}
use Rattle.grid_types.specs.Calls.{Call, Reply}
use Rattle.hub_core.specs.HubView.{past, ServesLocally}
use Rattle.grid_simulate.specs.Held.{AreHeld}
use Rattle.grid_simulate.specs.World.{simulated_config}
use Rattle.hub_core.specs.declared.answers.Enqueued.{Enqueued}
use Rattle.hub_core.specs.Replies.{enqueued_reply}
use Rattle.grid_simulate.proofs.HeldLemmas.{roomed, free_sound, enqueue_held}
use Rattle.grid_simulate.proofs.simulation.Simulation.enqueue_choices.Goals as goal

pub returns-in-Queued-clause-sound : goal.returns-in-Queued-clause-sound
returns-in-Queued-clause-sound c =
    let s = c.args.self.now in
    let room = roomed s.hub c.room.new.self s.tickets.items s.reservations.items c.in_ok-room.ensures.ok c.requires.config_is c.requires.held in
    let serves = subst (λ (a : Enqueued). ServesLocally c.room.new.self (Call.enqueue c.args.choices) s.moment (enqueued_reply a) c.enqueue.new.self) c.in-Queued.is c.enqueue.ensures in
    record {
      config_is = serves.same_config ∙ room.0;
      held = subst (λ (l : List Ticket). AreHeld (past c.enqueue.new.self) l s.reservations.items) (sym (c.put_last.ensures ∙ ap (λ (l : List Ticket). l ++ c.in-Queued.ticket ∷ []) c.reserve.ensures.items))
          (enqueue_held c.room.new.self c.enqueue.new.self c.args.choices s.moment (Some (Reply.queued c.in-Queued.ticket)) c.in-Queued.ticket s.tickets.items s.reservations.items room.0
          (c.numbered_one_by_one.ensures simulated_config) c.journal-journal.ensures.legal refl serves room.1);
    }

pub returns-in-Unsupported-clause-sound : goal.returns-in-Unsupported-clause-sound
returns-in-Unsupported-clause-sound c =
    let s = c.args.self.now in
    let room = roomed s.hub c.room.new.self s.tickets.items s.reservations.items c.in_ok-room.ensures.ok c.requires.config_is c.requires.held in
    let after = free_sound c.room.new.self c.enqueue.new.self (Call.enqueue c.args.choices) s.moment _ s.tickets.items c.reserve.new.self.items s.reservations.items s.reservations.items room.0 c.reserve.ensures.items refl c.enqueue.ensures (λ k. refl) (λ k x. refl) room.1 in
    record { config_is = after.0; held = after.1 }

pub returns-in-QueueFull-clause-sound : goal.returns-in-QueueFull-clause-sound
returns-in-QueueFull-clause-sound c =
    let s = c.args.self.now in
    let room = roomed s.hub c.room.new.self s.tickets.items s.reservations.items c.in_ok-room.ensures.ok c.requires.config_is c.requires.held in
    let after = free_sound c.room.new.self c.enqueue.new.self (Call.enqueue c.args.choices) s.moment _ s.tickets.items c.reserve.new.self.items s.reservations.items s.reservations.items room.0 c.reserve.ensures.items refl c.enqueue.ensures (λ k. refl) (λ k x. refl) room.1 in
    record { config_is = after.0; held = after.1 }

pub returns-in-NumbersSpent-clause-sound : goal.returns-in-NumbersSpent-clause-sound
returns-in-NumbersSpent-clause-sound c =
    let s = c.args.self.now in
    let room = roomed s.hub c.room.new.self s.tickets.items s.reservations.items c.in_ok-room.ensures.ok c.requires.config_is c.requires.held in
    let after = free_sound c.room.new.self c.enqueue.new.self (Call.enqueue c.args.choices) s.moment _ s.tickets.items c.reserve.new.self.items s.reservations.items s.reservations.items room.0 c.reserve.ensures.items refl c.enqueue.ensures (λ k. refl) (λ k x. refl) room.1 in
    record { config_is = after.0; held = after.1 }
