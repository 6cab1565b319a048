use Rattle.std.proofs.Common.{List, ◌++◌, ◌∷◌, [], refl, sym, ap, subst, ◌∙◌}
use Rattle.std.specs.Prelude.{Some}
use Rattle.grid_types.specs.Tokens.{Reservation}
use Rattle.grid_types.specs.Calls.{Call, Reply}
use Rattle.hub_core.specs.HubView.{past, ServesLocally}
use Rattle.grid_simulate.specs.Held.{AreHeld}
use Rattle.hub_core.specs.declared.answers.Dispatched.{Dispatched}
use Rattle.hub_core.specs.Replies.{dispatched_reply}
use Rattle.grid_simulate.proofs.HeldLemmas.{free_sound, dispatch_held}
use Rattle.grid_simulate.proofs.simulation.Simulation.dispatch.Goals as goal

pub returns-in-Assigned-clause-sound : goal.returns-in-Assigned-clause-sound
returns-in-Assigned-clause-sound c =
    let s = c.args.self.now in
    let serves = subst (λ (a : Dispatched). ServesLocally s.hub Call.dispatch s.moment (dispatched_reply a) c.dispatch.new.self) c.in-Assigned.is c.dispatch.ensures in
    record {
      config_is = serves.same_config ∙ c.requires.config_is;
      held = subst (λ (l : List Reservation). AreHeld (past c.dispatch.new.self) s.tickets.items l) (sym (c.put_last.ensures ∙ ap (λ (l : List Reservation). l ++ c.in-Assigned.reservation ∷ []) c.reserve.ensures.items))
          (dispatch_held s.hub c.dispatch.new.self s.moment (Some (Reply.assigned c.in-Assigned.reservation)) c.in-Assigned.reservation s.tickets.items s.reservations.items c.requires.config_is
          c.chosen_is_first.ensures.fits refl serves c.requires.held);
    }

pub returns-in-Nothing-clause-sound : goal.returns-in-Nothing-clause-sound
returns-in-Nothing-clause-sound c =
    let s = c.args.self.now in
    let after = free_sound s.hub c.dispatch.new.self Call.dispatch s.moment _ s.tickets.items s.tickets.items s.reservations.items c.reserve.new.self.items c.requires.config_is refl c.reserve.ensures.items c.dispatch.ensures (λ k. refl) (λ k x. refl) c.requires.held in
    record { config_is = after.0; held = after.1 }
