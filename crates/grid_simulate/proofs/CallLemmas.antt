-- What a call of the hub makes of the world.
use Rattle.std.proofs.Common.{◌≡◌, ℕ, true, List, [], ◌∷◌, ◌++◌, refl, sym, ap, subst, ◌∙◌}
use Rattle.std.specs.Prelude.{Option, Some, Result, Ok, Err, OnOk}
use Rattle.grid_types.specs.declared.text.NoMemory.{NoMemory}
use Rattle.std.specs.List.{slice_get, remove}
use Rattle.grid_types.specs.declared.entry.Entry.{Entry}
use Rattle.grid_types.specs.declared.entry.Outcome.{Outcome}
use Rattle.grid_types.specs.Tokens.{Ticket, Reservation, Closing}
use Rattle.grid_types.specs.Calls.{Call, Reply}
use Rattle.hub_core.specs.HubView.{HubView, past, ServesLocally}
use Rattle.loop_node.specs.Sessions.{Node}
use Rattle.grid_simulate.specs.World.{World, simulated_config, reply_to, called}
use Rattle.grid_simulate.specs.Actions.{with_ticket, enqueues, with_reservation, dispatched, with_poll, polled_at, Quits, EndsCall, Finishes}
use Rattle.grid_simulate.specs.Looks.{Asked}
use Rattle.grid_simulate.proofs.HeldLemmas.{exact}

-- the hub answered a call at the world's moment so
pub record Goes (w : World) (call : Call) (reply : Reply) (new : HubView) : Type 0 where
  pub config : new.config ≡ simulated_config
  pub replies : reply_to w call ≡ reply
  pub history : past new ≡ (called w call).history

pub goes : (w : World) (old new : HubView) (call : Call) (o : Option Reply) (reply : Reply) → w.history ≡ past old → old.config ≡ simulated_config → o ≡ Some reply → ServesLocally old call w.moment o new →
    Goes w call reply new
goes w old new call o reply same config e serves =
    let x = exact old new call w.moment o reply config e serves in
    subst (λ (H : List Entry). Goes (record w { history = H }) call reply new) (sym same) (record { config = x.config; replies = x.replies; history = x.goes_on })

-- room in the journal changes neither the history nor the configuration
pub room_past : (old new : HubView) → new ≡ record old { room = true } → past old ≡ past new
room_past old new e = sym (ap (λ (h : HubView). past h) e)

pub room_config : (old new : HubView) → new ≡ record old { room = true } → old.config ≡ simulated_config → new.config ≡ simulated_config
room_config old new e config = ap (λ (h : HubView). h.config) e ∙ config

-- ---- the world after a call

pub called_is : (w : World) (call : Call) (reply : Reply) (new : HubView) → Goes w call reply new → record w { history = past new } ≡ called w call
called_is w call reply new g = ap (λ (H : List Entry). record w { history = H }) g.history

pub enqueues_queued : (w : World) (call : Call) (t : Ticket) (new : HubView) (ts : List Ticket) → Goes w call (Reply.queued t) new → ts ≡ w.tickets ++ t ∷ [] →
    record w { history = past new; tickets = ts } ≡ enqueues w call
enqueues_queued w call t new ts g e =
    subst (λ (r : Reply). record w { history = past new; tickets = ts } ≡ with_ticket (called w call) r) (sym g.replies)
    (ap (λ (l : List Ticket). record w { history = past new; tickets = l }) e ∙ ap (λ (H : List Entry). record w { history = H; tickets = w.tickets ++ t ∷ [] }) g.history)

pub enqueues_other : (w : World) (call : Call) (reply : Reply) (new : HubView) → Goes w call reply new → ((v : World) → with_ticket v reply ≡ v) → record w { history = past new } ≡ enqueues w call
enqueues_other w call reply new g none =
    subst (λ (r : Reply). record w { history = past new } ≡ with_ticket (called w call) r) (sym g.replies)
    (called_is w call reply new g ∙ sym (none (called w call)))

pub dispatched_assigned : (w : World) (r : Reservation) (new : HubView) (rs : List Reservation) → Goes w Call.dispatch (Reply.assigned r) new → rs ≡ w.reservations ++ r ∷ [] →
    record w { history = past new; reservations = rs } ≡ dispatched w
dispatched_assigned w r new rs g e =
    subst (λ (a : Reply). record w { history = past new; reservations = rs } ≡ with_reservation (called w Call.dispatch) a) (sym g.replies)
    (ap (λ (l : List Reservation). record w { history = past new; reservations = l }) e ∙ ap (λ (H : List Entry). record w { history = H; reservations = w.reservations ++ r ∷ [] }) g.history)

pub dispatched_nothing : (w : World) (new : HubView) → Goes w Call.dispatch Reply.nothing new → record w { history = past new } ≡ dispatched w
dispatched_nothing w new g =
    subst (λ (a : Reply). record w { history = past new } ≡ with_reservation (called w Call.dispatch) a) (sym g.replies) (called_is w Call.dispatch Reply.nothing new g)

-- ---- polls

at_some : (w : World) (place : ℕ) (t : Ticket) (o : Option Ticket) (v : World) → o ≡ Some t → v ≡ with_poll (called w (Call.poll t)) place (reply_to w (Call.poll t)) → v ≡ polled_at w place o
at_some w place t o v e h = subst (λ (p : Option Ticket). v ≡ polled_at w place p) (sym e) h

pub polled_not_yet : (w : World) (place : ℕ) (t u : Ticket) (new : HubView) (ts : List Ticket) → slice_get w.tickets place ≡ Some t → Goes w (Call.poll t) (Reply.not_yet u) new → ts ≡ w.tickets →
    record w { history = past new; tickets = ts } ≡ polled_at w place (slice_get w.tickets place)
polled_not_yet w place t u new ts at g e = at_some w place t (slice_get w.tickets place) _ at
    (subst (λ (r : Reply). record w { history = past new; tickets = ts } ≡ with_poll (called w (Call.poll t)) place r) (sym g.replies)
    (ap (λ (l : List Ticket). record w { history = past new; tickets = l }) e ∙ called_is w (Call.poll t) (Reply.not_yet u) new g))

pub polled_yours : (w : World) (place : ℕ) (t u : Ticket) (s : Reservation) (new : HubView) (ts : List Ticket) (rs : List Reservation) → slice_get w.tickets place ≡ Some t →
    Goes w (Call.poll t) (Reply.yours u s) new → ts ≡ w.tickets → rs ≡ w.reservations ++ s ∷ [] →
    record w { history = past new; tickets = ts; reservations = rs } ≡ polled_at w place (slice_get w.tickets place)
polled_yours w place t u s new ts rs at g e f = at_some w place t (slice_get w.tickets place) _ at
    (subst (λ (r : Reply). record w { history = past new; tickets = ts; reservations = rs } ≡ with_poll (called w (Call.poll t)) place r) (sym g.replies)
    (ap (λ (l : List Ticket). record w { history = past new; tickets = l; reservations = rs }) e
    ∙ ap (λ (l : List Reservation). record w { history = past new; reservations = l }) f
    ∙ ap (λ (H : List Entry). record w { history = H; reservations = w.reservations ++ s ∷ [] }) g.history))

pub polled_settled : (w : World) (place : ℕ) (t : Ticket) (o : Outcome) (new : HubView) (ts : List Ticket) → slice_get w.tickets place ≡ Some t → Goes w (Call.poll t) (Reply.settled o) new → ts ≡ remove w.tickets place →
    record w { history = past new; tickets = ts } ≡ polled_at w place (slice_get w.tickets place)
polled_settled w place t o new ts at g e = at_some w place t (slice_get w.tickets place) _ at
    (subst (λ (r : Reply). record w { history = past new; tickets = ts } ≡ with_poll (called w (Call.poll t)) place r) (sym g.replies)
    (ap (λ (l : List Ticket). record w { history = past new; tickets = l }) e ∙ ap (λ (H : List Entry). record w { history = H; tickets = remove w.tickets place }) g.history))

-- ---- ends

pub quits_by : (c : Closing) (w : World) (nodes : List Node) (new : HubView) → Asked c w.nodes nodes → Goes (record w { nodes = nodes }) (Call.freed c) Reply.is_freed new → Quits c w (record w { history = past new; nodes = nodes })
quits_by c w nodes new asked g = record {
  came = asked.came;
  later = nodes;
  gives = asked.gives;
  full = asked.full;
  freed = called_is (record w { nodes = nodes }) (Call.freed c) Reply.is_freed new g;
}

pub ended_by : (w v : World) (call : Call) (c : Closing) (mid : HubView) → Goes w call (Reply.ended c) mid → Quits c (record w { history = past mid }) v → EndsCall w call v
ended_by w v call c mid g quits =
    subst (λ (r : Reply). Finishes (called w call) r v) (sym g.replies) (subst (λ (u : World). Quits c u v) (called_is w call (Reply.ended c) mid g) quits)

pub not_ended : (w : World) (call : Call) (new : HubView) → Goes w call Reply.no_session new → EndsCall w call (record w { history = past new })
not_ended w call new g =
    subst (λ (r : Reply). Finishes (called w call) r (record w { history = past new })) (sym g.replies) (called_is w call Reply.no_session new g)

-- the node was asked, and then the slot was freed
pub quits_if_asked : (c : Closing) (w : World) (old new : HubView) (nodes : List Node) (r : Result Unit NoMemory) → w.history ≡ past old → old.config ≡ simulated_config → ServesLocally old (Call.freed c) w.moment (Some Reply.is_freed) new →
    OnOk r (Asked c w.nodes nodes) → OnOk r (Quits c w (record w { history = past new; nodes = nodes }))
quits_if_asked c w old new nodes (Ok u) same config serves asked =
    quits_by c w nodes new asked (goes (record w { nodes = nodes }) old new (Call.freed c) (Some Reply.is_freed) Reply.is_freed same config refl serves)
quits_if_asked c w old new nodes (Err e) same config serves asked = tt
