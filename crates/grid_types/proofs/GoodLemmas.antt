-- The tokens that the hub of one thread gives are good after the call.
use Rattle.std.proofs.Common.{◌≡◌, ℕ, ◌<◌, Bool, true, false, cond, List, ◌∷◌, refl, subst, arith}
use Rattle.std.specs.Prelude.{Option, None, Some, nat_eq, nat_lt, find}
use Rattle.grid_types.specs.declared.entry.Entry.{Entry}
use Rattle.grid_types.specs.declared.entry.Change.TheVariants as change
use Rattle.grid_types.specs.declared.entry.EndCause.{EndCause}
use Rattle.grid_types.specs.declared.entry.EndCause.TheVariants as cause
use Rattle.grid_types.specs.declared.entry.FailWhy.{FailWhy}
use Rattle.grid_types.specs.declared.entry.Outcome.{Outcome}
use Rattle.grid_types.specs.declared.names.SlotId.{SlotId}
use Rattle.grid_types.specs.declared.capabilities.Cap.{Cap}
use Rattle.grid_types.specs.declared.capabilities.Registration.{Registration}
use Rattle.grid_types.specs.declared.config.HubConfig.{HubConfig}
use Rattle.grid_types.specs.Lists.{least}
use Rattle.grid_types.specs.History.{after, nodes, next_request}
use Rattle.grid_types.specs.Bindings.{Running, bound_of}
use Rattle.grid_types.specs.Requests.{is_taken, outcome_of}
use Rattle.grid_types.specs.Sessions.{IsRunning, live}
use Rattle.grid_types.specs.Choice.{Assignment, chosen}
use Rattle.grid_types.specs.Permitted.{is_named}
use Rattle.grid_types.specs.Tokens.{is_good_ticket, is_good_reservation, is_good_closing}
use Rattle.grid_types.specs.Legal.{legal}
use Rattle.grid_types.specs.Calls.{Call, Reply}
use Rattle.grid_types.specs.HubAnswers.{Answer, says, moment, register_by, drained, enqueued, polled, polled_open, withdrawn, reserves, dispatched, bound, failed, at_binding, is_binding, closes, expired_by, idle_bindings, hub, answer, after_call}
use Rattle.grid_types.specs.Laws.{is_good_call, is_good_reply}
use Rattle.grid_types.proofs.PermittedLemmas.{slot_eq-same}
use Rattle.grid_types.proofs.SessionLemmas.{entry}
use Rattle.grid_types.proofs.RequestLemmas.{request-below-next}
use Rattle.grid_types.proofs.HeldLemmas.{taken-settled}
use Rattle.grid_types.proofs.SafeLemmas.{settled-asked}
use Rattle.grid_types.proofs.MapLemmas.{running-live}

-- the answer's tokens are good after its changes
abbrev GivesGood : List Entry → ℕ → Answer → Type 0
GivesGood H k a = is_good_reply (after H k a.changes) k a.reply ≡ true

register-gives : (c : HubConfig) (H : List Entry) (k : ℕ) (r : Registration) (m : ℕ) (o : Option ℕ) → GivesGood H k (register_by c H r m o)
register-gives c H k r m (Some n) = refl
register-gives c H k r m None = grind arith

-- the number that is next was not taken
next-not_taken : (c : HubConfig) (H : List Entry) → legal c H ≡ true → is_taken H (next_request c H) ≡ false
next-not_taken c H l = by_taken (is_taken H (next_request c H)) refl
  where
    by_taken : (v : Bool) → is_taken H (next_request c H) ≡ v → is_taken H (next_request c H) ≡ false
    by_taken true e =
        let below : next_request c H < next_request c H = request-below-next c H (next_request c H) l (settled-asked c H (next_request c H) l (taken-settled c H (next_request c H) l e)) in
        absurd (omega arith)
    by_taken false e = e

enqueue-gives : (c : HubConfig) (H : List Entry) (k : ℕ) (choices : List (List Cap)) (m : ℕ) → legal c H ≡ true → GivesGood H k (enqueued c H choices m)
enqueue-gives c H k choices m l = let new : is_taken H (next_request c H) ≡ false = next-not_taken c H l in grind arith

drain-gives : (H : List Entry) (k n m : ℕ) → GivesGood H k (drained H n m)
drain-gives H k n m = grind arith

reserved-good : (H : List Entry) (k m : ℕ) (a : Assignment) → is_good_reservation (entry k (reserves m a) ∷ H) k a.request a.slot ≡ true
reserved-good H k m a = grind (arith, slot_eq-same a.slot)

dispatch-gives : (H : List Entry) (k m : ℕ) (o : Option Assignment) → GivesGood H k (dispatched H k m o)
dispatch-gives H k m None = refl
dispatch-gives H k m (Some a) = reserved-good H k m a

poll_open-gives : (H : List Entry) (k r m : ℕ) (o : Option Assignment) → is_good_ticket H k r ≡ true → GivesGood H k (polled_open H k r m o)
poll_open-gives H k r m None good = good
poll_open-gives H k r m (Some a) good = grind (arith, reserved-good H k m a)

poll-gives : (H : List Entry) (k r m : ℕ) (o : Option Outcome) → is_good_ticket H k r ≡ true → GivesGood H k (polled H k r m o)
poll-gives H k r m (Some o) good = refl
poll-gives H k r m None good = let rest : GivesGood H k (polled_open H k r m (chosen H m)) = poll_open-gives H k r m (chosen H m) good in grind arith

withdraw-gives : (H : List Entry) (k r m : ℕ) (o : Option Outcome) → is_good_ticket H k r ≡ true → GivesGood H k (withdrawn H r m o)
withdraw-gives H k r m (Some o) good = refl
withdraw-gives H k r m None good = grind arith

bind-gives : (H : List Entry) (k r : ℕ) (s : SlotId) (x : List ℕ) (caps : List Cap) (m : ℕ) → GivesGood H k (bound H k r s x caps m)
bind-gives H k r s x caps m = grind (arith, slot_eq-same s)

fail-gives : (H : List Entry) (k r : ℕ) (s : SlotId) (w : FailWhy) (m : ℕ) → GivesGood H k (failed H r s w m)
fail-gives H k r s w m = grind arith

-- the slot of a binding that ends is closing
ended-good : (H : List Entry) (k b : ℕ) (e : EndCause) (m : ℕ) (x : Running) → bound_of H b ≡ Some x → is_good_closing (entry k (change.Ended b e (moment m)) ∷ H) k x.slot ≡ true
ended-good H k b e m x h = rw h (grind (arith, slot_eq-same x.slot))

end-gives : (c : HubConfig) (H : List Entry) (k : ℕ) (s : List ℕ) (b m : ℕ) → legal c H ≡ true →
    GivesGood H k (at_binding H s b (closes H k (change.Ended b cause.Quit (moment m)) (live H s) (λ d. Reply.ended d)))
end-gives c H k s b m l = by_live (live H s) refl
  where
    by_live : (o : Option Running) → live H s ≡ o → GivesGood H k (cond (is_binding b o) (closes H k (change.Ended b cause.Quit (moment m)) o (λ d. Reply.ended d)) (says Reply.no_session))
    by_live None e = refl
    by_live (Some x) e = by_binding (nat_eq x.binding b) refl
      where
        by_binding : (v : Bool) → nat_eq x.binding b ≡ v → GivesGood H k (cond v (closes H k (change.Ended b cause.Quit (moment m)) (Some x) (λ d. Reply.ended d)) (says Reply.no_session))
        by_binding true same =
            let runs : IsRunning H x × (x.session ≡ s) = running-live c H s x l e in
            let own : x.binding ≡ b = grind arith in
            ended-good H k b cause.Quit m x (subst (λ (z : ℕ). bound_of H z ≡ Some x) own runs.0.bound)
        by_binding false other = refl

expire-gives : (H : List Entry) (k m : ℕ) (o : Option ℕ) → GivesGood H k (expired_by H k m o)
expire-gives H k m None = refl
expire-gives H k m (Some b) = by_bound (bound_of H b) refl
  where
    by_bound : (o : Option Running) → bound_of H b ≡ o → GivesGood H k (closes H k (change.Ended b cause.Idle (moment m)) o (λ d. Reply.expired d))
    by_bound None e = refl
    by_bound (Some x) e = ended-good H k b cause.Idle m x e

answer-gives : (c : HubConfig) (H : List Entry) (k : ℕ) (call : Call) (m : ℕ) → legal c H ≡ true → is_good_call H k call ≡ true → GivesGood H k (answer c H k call m)
answer-gives c H k (Call.register r) m l good = register-gives c H k r m (find (is_named H r.name) (nodes H))
answer-gives c H k (Call.beat n None) m l good = grind arith
answer-gives c H k (Call.beat n (Some name)) m l good = grind arith
answer-gives c H k (Call.drain n) m l good = drain-gives H k n m
answer-gives c H k (Call.remove n) m l good = grind arith
answer-gives c H k (Call.enqueue choices) m l good = enqueue-gives c H k choices m l
answer-gives c H k (Call.poll u) m l good = poll-gives H k u.request m (outcome_of H u.request) good
answer-gives c H k (Call.withdraw u) m l good = withdraw-gives H k u.request m (outcome_of H u.request) good
answer-gives c H k Call.dispatch m l good = dispatch-gives H k m (chosen H m)
answer-gives c H k (Call.bind u x caps) m l good = bind-gives H k u.request u.slot x caps m
answer-gives c H k (Call.fail u w) m l good = fail-gives H k u.request u.slot w m
answer-gives c H k (Call.lookup s) m l good = refl
answer-gives c H k (Call.touch s b) m l good = grind arith
answer-gives c H k (Call.end s b) m l good = end-gives c H k s b m l
answer-gives c H k (Call.freed u) m l good = refl
answer-gives c H k Call.sweep m l good = refl
answer-gives c H k Call.expire m l good = expire-gives H k m (least nat_lt (idle_bindings c H m))
answer-gives c H k Call.clear m l good = refl
answer-gives c H k Call.view m l good = refl

pub calls-give-good : (c : HubConfig) (H : List Entry) (k : ℕ) (call : Call) (at : ℕ) → legal c H ≡ true → is_good_call H k call ≡ true → is_good_reply (after_call c H k call at) k (hub c H k call at).reply ≡ true
unfolding hub
calls-give-good c H k call at l good = answer-gives c H k call _ l good
