-- What is told of the calls of requests.
use Rattle.std.proofs.Common.{◌≡◌, ℕ, Bool, true, false, List, [], ◌∷◌, refl, sym, ap, subst, Result, Ok}
use Rattle.std.specs.Prelude.{Some, map, cond}
use Rattle.grid_types.specs.declared.capabilities.Cap.{Cap}
use Rattle.grid_types.specs.declared.entry.Entry.{Entry}
use Rattle.grid_types.specs.declared.entry.Change.TheVariants as change
use Rattle.grid_types.specs.declared.entry.Outcome.{Outcome}
use Rattle.grid_types.specs.declared.names.Moment.{Moment}
use Rattle.grid_types.specs.Requests.{is_settled}
use Rattle.grid_types.specs.HubAnswers.{moment}
use Rattle.grid_types.specs.Tables.{entry}
use Rattle.grid_types.specs.Tokens.{Ticket, Reservation}
use Rattle.grid_types.specs.Calls.{Call, Reply}
use Rattle.grid_journal.specs.declared.piece.PieceFault.{PieceFault}
use Rattle.grid_journal.specs.Pieces.{Told}
use Rattle.hub_core.specs.declared.answers.Enqueued.{Enqueued}
use Rattle.hub_core.specs.declared.answers.Enqueued.TheVariants as enqueued_by
use Rattle.hub_core.specs.declared.answers.Polled.{Polled}
use Rattle.hub_core.specs.declared.answers.Polled.TheVariants as polled_as
use Rattle.hub_core.specs.declared.answers.Withdrawing.{Withdrawing}
use Rattle.hub_core.specs.declared.answers.Withdrawing.TheVariants as withdrawing
use Rattle.hub_core.specs.declared.answers.Dispatched.{Dispatched}
use Rattle.hub_core.specs.declared.answers.Dispatched.TheVariants as dispatched_as
use Rattle.hub_core.specs.Replies.{enqueued_reply, polled_reply, withdrawing_reply, dispatched_reply}
use Rattle.reply_laws.specs.Made.{CallsMake, enqueue_made, poll_made, withdraw_made, dispatch_made}
use Rattle.hub_tellers.specs.Tells.{Nothing, Tells, ToldAll}
use Rattle.hub_tellers.proofs.TellLemmas.{one_told, tells, tells_none, tells_lack}

-- the entries of an outcome that is handed out, by whether the request was settled
abbrev pub settled_entries : ℕ → ℕ → Bool → Moment → List Entry
settled_entries k r was now = cond was (entry k (change.Taken r now) ∷ []) (entry k (change.TimedOut r now) ∷ entry k (change.Taken r now) ∷ [])

made_settled : (k r : ℕ) (now : Moment) (was done : Bool) → was ≡ done → map (entry k) (cond done (change.Taken r now ∷ []) (change.TimedOut r now ∷ change.Taken r now ∷ [])) ≡ settled_entries k r was now
made_settled k r now true true e = refl
made_settled k r now false false e = refl
made_settled k r now true false e = absurd (cc)
made_settled k r now false true e = absurd (cc)

-- one list or the other, by a test that is known
pub told_if : (old new : List ℕ) (b : Bool) (es fs : List Entry) (r : Result (Unit {0}) PieceFault) → b ≡ true → ToldAll old new es r → ToldAll old new (cond b es fs) r
told_if old new b es fs r e told = subst (λ (v : Bool). ToldAll old new (cond v es fs) r) (sym e) told

pub told_else : (old new : List ℕ) (b : Bool) (es fs : List Entry) (r : Result (Unit {0}) PieceFault) → b ≡ false → ToldAll old new fs r → ToldAll old new (cond b es fs) r
told_else old new b es fs r e told = subst (λ (v : Bool). ToldAll old new (cond v es fs) r) (sym e) told

module _ (laws : CallsMake) (k : ℕ) (now : Moment) where
  pub enqueue_told : (choices : List (List Cap)) (a : Enqueued) (t : Ticket) (r : ℕ) (d : Moment) (old new : List ℕ) (res : Result (Unit {0}) PieceFault) → a ≡ enqueued_by.Queued t →
      r ≡ t.request → d.0 ≡ t.deadline → Told old new (entry k (change.Queued r choices d now)) res → Tells Nothing k (Call.enqueue choices) (enqueued_reply a) now old new res
  enqueue_told choices a t r d old new res e same until told = subst (λ (x : Enqueued). Tells Nothing k (Call.enqueue choices) (enqueued_reply x) now old new res) (sym e)
      (tells Nothing k (Call.enqueue choices) (λ c H at. enqueue_made choices) (λ c H at. laws.enqueue c H k at choices) now (Reply.queued t) (entry k (change.Queued r choices d now) ∷ []) old new res
      (λ c H at know. subst (λ (n : ℕ). entry k (change.Queued n choices (moment t.deadline) now) ∷ [] ≡ entry k (change.Queued r choices d now) ∷ []) same
      (ap (λ (m : ℕ). entry k (change.Queued r choices (moment m) now) ∷ []) (sym until)))
      (one_told (entry k (change.Queued r choices d now)) old new res told))

  pub enqueue_quiet : (choices : List (List Cap)) (a : Enqueued) (old : List ℕ) (done : Unit {0}) → ((t : Ticket) → a ≡ enqueued_by.Queued t → ⊥) →
      Tells Nothing k (Call.enqueue choices) (enqueued_reply a) now old old (Ok done)
  enqueue_quiet choices a old done other = by_answer a other
    where
      says : (reply : Reply) → enqueue_made choices now reply ≡ [] → Tells Nothing k (Call.enqueue choices) (Some reply) now old old (Ok done)
      says reply is = tells_none Nothing k (Call.enqueue choices) (λ c H at. enqueue_made choices) (λ c H at. laws.enqueue c H k at choices) now reply old done (λ c H at know. ap (map (entry k)) is)

      by_answer : (x : Enqueued) → ((t : Ticket) → x ≡ enqueued_by.Queued t → ⊥) → Tells Nothing k (Call.enqueue choices) (enqueued_reply x) now old old (Ok done)
      by_answer (enqueued_by.Queued t) h = absurd (h t refl)
      by_answer enqueued_by.Unsupported h = says Reply.unsupported refl
      by_answer (enqueued_by.QueueFull count bytes) h = says (Reply.queue_full count bytes) refl
      by_answer enqueued_by.NumbersSpent h = says Reply.numbers_spent refl
      by_answer enqueued_by.Memory h = tells_lack Nothing k (Call.enqueue choices) now old done

  module _ (t : Ticket) (r : ℕ) (same : t.request ≡ r) (was : Bool) where
    pub poll_reserved : (a : Polled) (u : Ticket) (v : Reservation) (old new : List ℕ) (res : Result (Unit {0}) PieceFault) → a ≡ polled_as.Yours u v →
        Told old new (entry k (change.Reserved v.request v.slot v.choice now)) res → Tells (λ c H at. was ≡ is_settled H r) k (Call.poll t) (polled_reply a) now old new res
    poll_reserved a u v old new res e told = subst (λ (x : Polled). Tells (λ c H at. was ≡ is_settled H r) k (Call.poll t) (polled_reply x) now old new res) (sym e)
        (tells (λ c H at. was ≡ is_settled H r) k (Call.poll t) (λ c H at. poll_made t.request (is_settled H t.request)) (λ c H at. laws.poll c H k at t) now (Reply.yours u v)
        (entry k (change.Reserved v.request v.slot v.choice now) ∷ []) old new res (λ c H at know. refl)
        (one_told (entry k (change.Reserved v.request v.slot v.choice now)) old new res told))

    pub poll_settled : (a : Polled) (o : Outcome) (old new : List ℕ) (res : Result (Unit {0}) PieceFault) → a ≡ polled_as.Settled o →
        ToldAll old new (settled_entries k r was now) res → Tells (λ c H at. was ≡ is_settled H r) k (Call.poll t) (polled_reply a) now old new res
    poll_settled a o old new res e told = subst (λ (x : Polled). Tells (λ c H at. was ≡ is_settled H r) k (Call.poll t) (polled_reply x) now old new res) (sym e)
        (tells (λ c H at. was ≡ is_settled H r) k (Call.poll t) (λ c H at. poll_made t.request (is_settled H t.request)) (λ c H at. laws.poll c H k at t) now (Reply.settled o)
        (settled_entries k r was now) old new res
        (λ c H at know. subst (λ (n : ℕ). map (entry k) (poll_made n (is_settled H n) now (Reply.settled o)) ≡ settled_entries k r was now) (sym same) (made_settled k r now was (is_settled H r) know))
        told)

    pub poll_quiet : (a : Polled) (old : List ℕ) (done : Unit {0}) → ((u : Ticket) (v : Reservation) → a ≡ polled_as.Yours u v → ⊥) → ((o : Outcome) → a ≡ polled_as.Settled o → ⊥) →
        Tells (λ c H at. was ≡ is_settled H r) k (Call.poll t) (polled_reply a) now old old (Ok done)
    poll_quiet (polled_as.NotYet u) old done yours settled = tells_none (λ c H at. was ≡ is_settled H r) k (Call.poll t) (λ c H at. poll_made t.request (is_settled H t.request)) (λ c H at. laws.poll c H k at t) now (Reply.not_yet u) old done
        (λ c H at know. refl)
    poll_quiet (polled_as.Yours u v) old done yours settled = absurd (yours u v refl)
    poll_quiet (polled_as.Settled o) old done yours settled = absurd (settled o refl)
    poll_quiet (polled_as.Memory u) old done yours settled = tells_lack (λ c H at. was ≡ is_settled H r) k (Call.poll t) now old done

  module _ (t : Ticket) (r : ℕ) (same : t.request ≡ r) where
    pub withdraw_cleared : (a : Withdrawing) (old new : List ℕ) (res : Result (Unit {0}) PieceFault) → a ≡ withdrawing.Withdrawn →
        ToldAll old new (entry k (change.Cleared r now) ∷ entry k (change.Taken r now) ∷ []) res → Tells Nothing k (Call.withdraw t) (withdrawing_reply a) now old new res
    withdraw_cleared a old new res e told = subst (λ (x : Withdrawing). Tells Nothing k (Call.withdraw t) (withdrawing_reply x) now old new res) (sym e)
        (tells Nothing k (Call.withdraw t) (λ c H at. withdraw_made t.request) (λ c H at. laws.withdraw c H k at t) now Reply.withdrawn
        (entry k (change.Cleared r now) ∷ entry k (change.Taken r now) ∷ []) old new res
        (λ c H at know. ap (λ (n : ℕ). entry k (change.Cleared n now) ∷ entry k (change.Taken n now) ∷ []) same) told)

    pub withdraw_settled : (a : Withdrawing) (o : Outcome) (old new : List ℕ) (res : Result (Unit {0}) PieceFault) → a ≡ withdrawing.Settled o →
        Told old new (entry k (change.Taken r now)) res → Tells Nothing k (Call.withdraw t) (withdrawing_reply a) now old new res
    withdraw_settled a o old new res e told = subst (λ (x : Withdrawing). Tells Nothing k (Call.withdraw t) (withdrawing_reply x) now old new res) (sym e)
        (tells Nothing k (Call.withdraw t) (λ c H at. withdraw_made t.request) (λ c H at. laws.withdraw c H k at t) now (Reply.settled o)
        (entry k (change.Taken r now) ∷ []) old new res
        (λ c H at know. ap (λ (n : ℕ). entry k (change.Taken n now) ∷ []) same) (one_told (entry k (change.Taken r now)) old new res told))

    pub withdraw_quiet : (a : Withdrawing) (u : Ticket) (old : List ℕ) (done : Unit {0}) → a ≡ withdrawing.NotYet u → Tells Nothing k (Call.withdraw t) (withdrawing_reply a) now old old (Ok done)
    withdraw_quiet a u old done e = subst (λ (x : Withdrawing). Tells Nothing k (Call.withdraw t) (withdrawing_reply x) now old old (Ok done)) (sym e)
        (tells_none Nothing k (Call.withdraw t) (λ c H at. withdraw_made t.request) (λ c H at. laws.withdraw c H k at t) now (Reply.not_yet u) old done (λ c H at know. refl))

  pub dispatch_told : (a : Dispatched) (v : Reservation) (old new : List ℕ) (res : Result (Unit {0}) PieceFault) → a ≡ dispatched_as.Assigned v →
      Told old new (entry k (change.Reserved v.request v.slot v.choice now)) res → Tells Nothing k Call.dispatch (dispatched_reply a) now old new res
  dispatch_told a v old new res e told = subst (λ (x : Dispatched). Tells Nothing k Call.dispatch (dispatched_reply x) now old new res) (sym e)
      (tells Nothing k Call.dispatch (λ c H at. dispatch_made) (λ c H at. laws.dispatch c H k at) now (Reply.assigned v) (entry k (change.Reserved v.request v.slot v.choice now) ∷ []) old new res (λ c H at know. refl)
      (one_told (entry k (change.Reserved v.request v.slot v.choice now)) old new res told))

  pub dispatch_quiet : (a : Dispatched) (old : List ℕ) (done : Unit {0}) → ((v : Reservation) → a ≡ dispatched_as.Assigned v → ⊥) → Tells Nothing k Call.dispatch (dispatched_reply a) now old old (Ok done)
  dispatch_quiet (dispatched_as.Assigned v) old done h = absurd (h v refl)
  dispatch_quiet dispatched_as.Nothing old done h = tells_none Nothing k Call.dispatch (λ c H at. dispatch_made) (λ c H at. laws.dispatch c H k at) now Reply.nothing old done (λ c H at know. refl)
  dispatch_quiet dispatched_as.Memory old done h = tells_lack Nothing k Call.dispatch now old done
