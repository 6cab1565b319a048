-- What a call of the hub leaves of the tokens that are held.
use Rattle.std.proofs.Common.{◌≡◌, ◌⊎◌, inl, inr, ℕ, Bool, true, false, ◌&&◌, List, [], ◌∷◌, ◌++◌, refl, sym, ap, subst, ◌∙◌}
use Rattle.std.specs.Prelude.{Option, None, Some}
use Rattle.grid_types.specs.declared.config.HubConfig.{HubConfig}
use Rattle.grid_types.specs.declared.entry.Entry.{Entry}
use Rattle.grid_types.specs.declared.capabilities.Cap.{Cap}
use Rattle.grid_types.specs.Legal.{legal}
use Rattle.grid_types.specs.Calls.{Call, Reply}
use Rattle.grid_types.specs.HubAnswers.{after_call, hub}
use Rattle.grid_types.specs.Tokens.{Ticket, Reservation, is_good_reservation, is_good_ticket, ticket_of}
use Rattle.request_laws.specs.Laws.{CallsKeepNewest, PollsAreEarly, StartsRunOut, is_enqueue}
use Rattle.request_laws.specs.Starts.{newest_request}
use Rattle.hub_core.specs.HubView.{HubView, past}
use Rattle.hub_core.specs.Replies.{enqueued_reply, polled_reply, binding_reply, ending_reply}
use Rattle.hub_core.specs.declared.answers.Enqueued.{Enqueued}
use Rattle.hub_core.specs.declared.answers.Enqueued.TheVariants as enqueued
use Rattle.hub_core.specs.declared.answers.Polled.{Polled}
use Rattle.hub_core.specs.declared.answers.Polled.TheVariants as polled
use Rattle.hub_core.specs.declared.answers.Binding.{Binding}
use Rattle.hub_core.specs.declared.answers.Binding.TheVariants as binding
use Rattle.hub_core.specs.declared.answers.Ending.{Ending}
use Rattle.hub_core.specs.declared.answers.Ending.TheVariants as ending
use Rattle.node_client.specs.Held.{Token, of_ticket, of_reservation, of_closing, binding_tokens}
use Rattle.conn_script.specs.declared.wants.HubAnswer.{HubAnswer}
use Rattle.conn_script.specs.declared.wants.HubAnswer.TheVariants as answers
use Rattle.conn_script.specs.Wanted.{Keeps, answer_tokens, call_tokens, ending_tokens, enqueued_tokens, is_rightful, polled_tokens, reply_of}
use Rattle.hub_conn.specs.CallLaws.{AreBeside, IsBeside}
use Rattle.local_driver.specs.World.{AnswersAt}
use Rattle.local_driver.specs.Calls.{Made, MayMake, ServesOn}
use Rattle.local_driver.specs.Serving.{Has, HasAll}

pub has_both : (H : List Entry) (xs ys : List Token) → HasAll H xs → HasAll H ys → HasAll H (xs ++ ys)
has_both H [] ys p q = q
has_both H (x ∷ xs) ys p q = (p.0, has_both H xs ys p.1 q)

pub has_left : (H : List Entry) (xs ys : List Token) → HasAll H (xs ++ ys) → HasAll H xs
has_left H [] ys p = tt
has_left H (x ∷ xs) ys p = (p.0, has_left H xs ys p.1)

pub has_right : (H : List Entry) (xs ys : List Token) → HasAll H (xs ++ ys) → HasAll H ys
has_right H [] ys p = p
has_right H (x ∷ xs) ys p = has_right H xs ys p.1

both : (a b : Bool) → a ≡ true → b ≡ true → (a && b) ≡ true
both true true d e = refl
both a b d e = absurd cc

and_left : (a b : Bool) → (a && b) ≡ true → a ≡ true
and_left true b e = refl
and_left false b e = absurd cc

and_right : (a b : Bool) → (a && b) ≡ true → b ≡ true
and_right true b e = e
and_right false b e = absurd cc

-- it withdraws no request
abbrev pub StaysWith : Call → Type 0
StaysWith (Call.withdraw t) = ⊥
StaysWith call = Unit {0}

-- a call that brings what is asked, beside tokens that are good
pub may_make : (H : List Entry) (call : Call) → HasAll H (call_tokens call) → is_rightful call ≡ true → StaysWith call → MayMake H call
may_make H (Call.register node) has right stays = record { is_good = right; is_true = tt }
may_make H (Call.poll t) has right stays = record { is_good = has.0.0; is_true = has.0.1 }
may_make H (Call.withdraw t) has right stays = absurd stays
may_make H (Call.bind r session caps) has right stays = record { is_good = has.0.0; is_true = has.0.1 }
may_make H (Call.fail r why) has right stays = record { is_good = both _ _ has.0.0 right; is_true = has.0.1 }
may_make H (Call.freed c) has right stays = record { is_good = has.0; is_true = tt }
may_make H (Call.beat node name) has right stays = record { is_good = refl; is_true = tt }
may_make H (Call.drain node) has right stays = record { is_good = refl; is_true = tt }
may_make H (Call.remove node) has right stays = record { is_good = refl; is_true = tt }
may_make H (Call.enqueue choices) has right stays = tt
may_make H Call.dispatch has right stays = record { is_good = refl; is_true = tt }
may_make H (Call.lookup session) has right stays = record { is_good = refl; is_true = tt }
may_make H (Call.touch session number) has right stays = record { is_good = refl; is_true = tt }
may_make H (Call.end session number) has right stays = record { is_good = refl; is_true = tt }
may_make H Call.sweep has right stays = record { is_good = refl; is_true = tt }
may_make H Call.expire has right stays = record { is_good = refl; is_true = tt }
may_make H Call.clear has right stays = record { is_good = refl; is_true = tt }
may_make H Call.view has right stays = record { is_good = refl; is_true = tt }

-- ---- which request was queued last

-- the history after a call is that of the hub of one thread, or the one before it
pub later_is : (c : HubConfig) (H : List Entry) (call : Call) (at : ℕ) (reply : Option Reply) (later : List Entry) → AnswersAt c H call at reply later →
    (later ≡ after_call c H 0 call at) ⊎ (later ≡ H)
later_is c H call at None later (inl (inl x)) = inl x.goes_on
later_is c H call at None later (inl (inr x)) = inr x.stays
later_is c H call at None later (inr x) = inr x.1
later_is c H call at (Some r) later (inl x) = inl x.goes_on
later_is c H call at (Some r) later (inr x) = inr x.stays

pub newest_kept : CallsKeepNewest → (c : HubConfig) (H : List Entry) (call : Call) (at : ℕ) (reply : Option Reply) (later : List Entry) → is_enqueue call ≡ false →
    AnswersAt c H call at reply later → newest_request later ≡ newest_request H
newest_kept laws c H call at reply later other x = by_later (later_is c H call at reply later x)
  where
    by_later : (later ≡ after_call c H 0 call at) ⊎ (later ≡ H) → newest_request later ≡ newest_request H
    by_later (inl e) = ap newest_request e ∙ laws.others c H 0 call at other
    by_later (inr e) = ap newest_request e

-- an answer with a reply is exact
pub exact : (c : HubConfig) (H : List Entry) (call : Call) (at : ℕ) (r : Reply) (later : List Entry) → AnswersAt c H call at (Some r) later →
    ((hub c H 0 call at).reply ≡ r) × (later ≡ after_call c H 0 call at)
exact c H call at r later (inl x) = (some_is (hub c H 0 call at).reply r (sym x.replies), x.goes_on)
  where
    some_is : (a b : Reply) → Some a ≡ Some b → a ≡ b
    some_is a b e = cc
exact c H call at r later (inr x) = absurd (none_some x.silent)
  where
    none_some : Some r ≡ None → ⊥
    none_some e = cc

-- ---- what is held after it

module _ (laws : CallsKeepNewest) (h k : HubView) (call : Call) (at : ℕ) where
  -- tokens beside the call stay good, and no other request is queued
  pub keeps_one : (reply : Option Reply) → ServesOn h call at reply k → is_enqueue call ≡ false → (token : Token) → Has (past h) token → IsBeside call token → Has (past k) token
  keeps_one reply s other (of_ticket t) has beside =
      let kept = s.keeps_tickets t.request has.0 beside in
      (kept.0, has.1 ∙ sym kept.1, has.2 ∙ sym (newest_kept laws h.config (past h) call at reply (past k) other s.answers))
  keeps_one reply s other (of_reservation r) has beside =
      let kept = s.keeps_reservations r.request r.slot has.0 beside in
      (kept.0, has.1 ∙ sym kept.1)
  keeps_one reply s other (of_closing c) has beside = s.keeps_closings c.slot has beside

  pub keeps_beside : (reply : Option Reply) → ServesOn h call at reply k → is_enqueue call ≡ false → (tokens : List Token) → HasAll (past h) tokens → AreBeside call tokens →
      HasAll (past k) tokens
  keeps_beside reply s other [] has beside = tt
  keeps_beside reply s other (token ∷ tokens) has beside = (keeps_one reply s other token has.0 beside.0, keeps_beside reply s other tokens has.1 beside.1)

  pub keeps_left : (reply : Option Reply) → ServesOn h call at reply k → (left : List Token) → HasAll (past h) left → AreBeside call left → (is_enqueue call ≡ true → left ≡ []) →
      HasAll (past k) left
  keeps_left reply s left has beside none = by_kind (is_enqueue call) refl
    where
      by_kind : (b : Bool) → is_enqueue call ≡ b → HasAll (past k) left
      by_kind true e = subst (λ (ts : List Token). HasAll (past k) ts) (sym (none e)) tt
      by_kind false e = keeps_beside reply s e left has beside

-- for want of memory all is as it was
pub lack_same : (c : HubConfig) (H : List Entry) (call : Call) (at : ℕ) (later : List Entry) → AnswersAt c H call at None later → later ≡ H
lack_same c H call at later (inl (inl x)) = absurd (none_some x.replies)
  where
    none_some : None ≡ Some (hub c H 0 call at).reply → ⊥
    none_some e = cc
lack_same c H call at later (inl (inr x)) = x.stays
lack_same c H call at later (inr x) = x.1

module _ (laws : CallsKeepNewest) (starts : StartsRunOut) (early : PollsAreEarly) (h k : HubView) (at : ℕ) where
  -- the ticket of a poll, while its request is not settled
  ticket_on : (t u : Ticket) (reply : Reply) → ServesOn h (Call.poll t) at (Some reply) k → u.request ≡ t.request → Has (past h) (of_ticket t) → is_good_ticket (past k) 0 u.request ≡ true →
      u ≡ ticket_of (past k) u.request → Has (past k) (of_ticket u)
  ticket_on t u reply s same has good true_ = (good, true_, same ∙ has.2 ∙ sym (newest_kept laws h.config (past h) (Call.poll t) at (Some reply) (past k) refl s.answers))

  poll_has : legal h.config (past h) ≡ true → (t : Ticket) (a : Polled) → Keeps (answers.Poll a) (Call.poll t) → ServesOn h (Call.poll t) at (polled_reply a) k →
      HasAll (past h) (of_ticket t ∷ []) → HasAll (past k) (polled_tokens a)
  poll_has l t (polled.NotYet u) keeps s has =
      let x = exact h.config (past h) (Call.poll t) at (Reply.not_yet u) (past k) s.answers in
      (ticket_on t u (Reply.not_yet u) s (early.not_yet h.config (past h) 0 t u at x.0).1 has.0 s.gives.0 s.gives.1, tt)
  poll_has l t (polled.Yours u r) keeps s has =
      let x = exact h.config (past h) (Call.poll t) at (Reply.yours u r) (past k) s.answers in
      let same = (starts.yours h.config (past h) 0 t u r at l x.0).same_request in
      let good_ticket : is_good_ticket (past k) 0 u.request ≡ true = and_left _ _ s.gives.0 in
      let good : is_good_reservation (past k) 0 r.request r.slot ≡ true = and_right _ _ s.gives.0 in
      ((good, s.gives.1.1), (ticket_on t u (Reply.yours u r) s same has.0 good_ticket s.gives.1.0, tt))
  poll_has l t (polled.Settled o) keeps s has = tt
  poll_has l t (polled.Memory u) keeps s has =
      let same : past k ≡ past h = lack_same h.config (past h) (Call.poll t) at (past k) s.answers in
      (subst (λ (H : List Entry). Has H (of_ticket u)) (sym same) (subst (λ (x : Ticket). Has (past h) (of_ticket x)) (sym keeps) has.0), tt)

  bind_has : (q : Reservation) (session : List ℕ) (caps : List Cap) (a : Binding) → Keeps (answers.Bind a) (Call.bind q session caps) →
      ServesOn h (Call.bind q session caps) at (binding_reply a) k → HasAll (past h) (of_reservation q ∷ []) → HasAll (past k) (binding_tokens a)
  bind_has q session caps (binding.Bound b) keeps s has = tt
  bind_has q session caps (binding.Late c) keeps s has = (s.gives.0, tt)
  bind_has q session caps (binding.NodeGone c) keeps s has = (s.gives.0, tt)
  bind_has q session caps (binding.Duplicate c) keeps s has = (s.gives.0, tt)
  bind_has q session caps (binding.Mismatch c) keeps s has = (s.gives.0, tt)
  bind_has q session caps (binding.Memory r x) keeps s has =
      let same : past k ≡ past h = lack_same h.config (past h) (Call.bind q session caps) at (past k) s.answers in
      (subst (λ (H : List Entry). Has H (of_reservation r)) (sym same) (subst (λ (z : Reservation). Has (past h) (of_reservation z)) (sym keeps.0) has.0), tt)

  enqueue_has : (choices : List (List Cap)) (a : Enqueued) → ServesOn h (Call.enqueue choices) at (enqueued_reply a) k → HasAll (past k) (enqueued_tokens a)
  enqueue_has choices (enqueued.Queued t) s =
      let x = exact h.config (past h) (Call.enqueue choices) at (Reply.queued t) (past k) s.answers in
      ((s.gives.0, s.gives.1, sym (ap newest_request x.1 ∙ laws.queued h.config (past h) 0 choices at t x.0)), tt)
  enqueue_has choices enqueued.Unsupported s = tt
  enqueue_has choices (enqueued.QueueFull count bytes) s = tt
  enqueue_has choices enqueued.NumbersSpent s = tt
  enqueue_has choices enqueued.Memory s = tt

  end_has : (call : Call) (a : Ending) → ServesOn h call at (ending_reply a) k → HasAll (past k) (ending_tokens a)
  end_has call (ending.Ended c) s = (s.gives.0, tt)
  end_has call ending.NoSession s = tt

  -- the tokens that an answer brings
  brings : legal h.config (past h) ≡ true → (call : Call) (answer : HubAnswer) → MayMake (past h) call → Made h call at answer k → HasAll (past h) (call_tokens call) →
      HasAll (past k) (answer_tokens answer)
  brings l (Call.withdraw t) answer may m has = absurd may
  brings l (Call.enqueue choices) (answers.Enqueue a) may m has = enqueue_has choices a m.serves
  brings l (Call.poll t) (answers.Poll a) may m has = poll_has l t a m.keeps m.serves has
  brings l (Call.bind q session caps) (answers.Bind a) may m has = bind_has q session caps a m.keeps m.serves has
  brings l call (answers.End a) may m has = end_has call a m.serves
  brings l call (answers.Register a) may m has = tt
  brings l call (answers.Beat a) may m has = tt
  brings l call (answers.Drain a) may m has = tt
  brings l call (answers.Remove a) may m has = tt
  brings l call (answers.Fail a) may m has = tt
  brings l call (answers.Lookup f) may m has = tt
  brings l call (answers.Touch a) may m has = tt
  brings l call answers.Freed may m has = tt
  brings l call (answers.Clear count) may m has = tt
  brings l call (answers.View a) may m has = tt
  brings l call answers.NoRoom may m has = tt
  brings l call (answers.Spent s) may m has = tt
  brings l call answer may m has = absurd (let fits = m.fits in cc)

  -- and those beside the call
  pub held_after : legal h.config (past h) ≡ true → (call : Call) (answer : HubAnswer) (left : List Token) → MayMake (past h) call → Made h call at answer k →
      HasAll (past h) (call_tokens call) → HasAll (past h) left → AreBeside call left → (is_enqueue call ≡ true → left ≡ []) → HasAll (past k) (answer_tokens answer ++ left)
  held_after l call answer left may m has rest beside none =
      has_both (past k) (answer_tokens answer) left (brings l call answer may m has) (keeps_left laws h k call at (reply_of answer) m.serves left rest beside none)
