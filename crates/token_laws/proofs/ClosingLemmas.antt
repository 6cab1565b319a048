-- Closings come from the replies of bind, end and expire.
use Rattle.std.proofs.Common.{◌≡◌, ◌⊎◌, ℕ, Bool, true, false, cond, ◌&&◌, ◌||◌, nat_eq, nat_le, nat_lt, List, [], ◌∷◌, ◌++◌, map, refl, ◌∙◌, subst, arith, inl, inr, Option, None, Some, find, is_some}
use Rattle.std.specs.List.{list_any}
use Rattle.std.specs.Prelude.{unwrap_or}
use Rattle.grid_types.specs.declared.config.HubConfig.{HubConfig}
use Rattle.grid_types.specs.declared.entry.Entry.{Entry}
use Rattle.grid_types.specs.declared.entry.Change.{Change}
use Rattle.grid_types.specs.declared.entry.Change.TheVariants as change
use Rattle.grid_types.specs.declared.entry.EndCause.{EndCause}
use Rattle.grid_types.specs.declared.entry.EndCause.TheVariants as cause
use Rattle.grid_types.specs.declared.entry.FailWhy.{FailWhy}
use Rattle.grid_types.specs.declared.entry.FailWhy.TheVariants as why
use Rattle.grid_types.specs.declared.entry.Outcome.{Outcome}
use Rattle.grid_types.specs.declared.entry.Outcome.TheVariants as outcome
use Rattle.grid_types.specs.declared.capabilities.Cap.{Cap}
use Rattle.grid_types.specs.declared.capabilities.Registration.{Registration}
use Rattle.grid_types.specs.declared.names.SlotId.{SlotId}
use Rattle.grid_types.specs.History.{after, nodes}
use Rattle.grid_types.specs.Legal.{legal}
use Rattle.grid_types.specs.Laws.{LiveIsRunning}
use Rattle.grid_types.specs.Lists.{least, when, or_else}
use Rattle.grid_types.specs.Slots.{Holder, slot_eq, holder, owner, holder_told, is_closing}
use Rattle.grid_types.specs.Requests.{outcome_of, deadline_of, waiting_requests}
use Rattle.grid_types.specs.Bindings.{Running, bound_of}
use Rattle.grid_types.specs.Sessions.{IsRunning, live}
use Rattle.grid_types.specs.Choice.{Assignment, chosen}
use Rattle.grid_types.specs.Permitted.{is_named, is_caller, is_last}
use Rattle.grid_types.specs.Tokens.{Closing, is_good_closing, closing_of}
use Rattle.grid_types.specs.Calls.{Call, Reply}
use Rattle.grid_types.specs.HandedIn.{hands_closing}
use Rattle.grid_types.specs.HubAnswers.{Answer, says, makes, moment, register_by, drained, enqueued, polled, polled_open, withdrawn, dispatched, bound_by, refused_reply, refusal_of, failed, at_binding, is_binding, closes, expired_by, idle_bindings, lapses, lapsed_nodes, suspicions, silent_nodes, time_outs, overdue_requests, removals, drained_nodes, swept, cleared, hub, answer}
use Rattle.token_laws.specs.Gives.{gives_closing, ClosingsComeFromReplies}

-- a change that leaves some slot closing
abbrev may_close : Change → Bool
may_close (change.Ended b e at) = true
may_close (change.Failed named slot w orphan last at) = is_some orphan
may_close c = false

-- no other leaves a slot so
leaves : (H : List Entry) (z : SlotId) (before h : Holder) (c : Change) → holder_told H z before c ≡ Some h → is_closing h ≡ true → may_close c ≡ true
leaves H z before h (change.Reserved named slot choice at) told mine = grind (arith, told, mine)
leaves H z before h (change.Bound named slot x caps at) told mine = grind (arith, told, mine)
leaves H z before h (change.Failed named slot w None last at) told mine = grind (arith, told, mine)
leaves H z before h (change.Failed named slot w (Some x) last at) told mine = refl
leaves H z before h (change.Freed slot) told mine = grind (arith, told, mine)
leaves H z before h (change.Ended b e at) told mine = refl
leaves H z before h (change.Lapsed n at) told mine = grind (arith, told, mine)
leaves H z before h c told mine = absurd (cc told)

one_of_two : (a b : Bool) → (a && b) ≡ true → a ≡ true
one_of_two a b e = grind (arith, e)

differs : (a : Bool) → a ≡ false → a ≡ true → ⊥
differs a x y = absurd (cc)

-- a change that tells nothing of the slot
untold : (H : List Entry) (k : ℕ) (c : Change) (z : SlotId) → holder_told H z (holder H z) c ≡ None → is_good_closing (record { caller = k; change = c } ∷ H) k z ≡ true → is_good_closing H k z ≡ true
untold H k c z none good =
    subst (λ (o : Option Holder). (is_closing (unwrap_or o (holder H z)) && is_caller k (or_else (when (is_some o) k) (owner H z))) ≡ true) none good

step : (H : List Entry) (k : ℕ) (c : Change) (z : SlotId) → may_close c ≡ false → is_good_closing (record { caller = k; change = c } ∷ H) k z ≡ true → is_good_closing H k z ≡ true
step H k c z none good = by_told (holder_told H z (holder H z) c) refl good
  where
    by_told : (o : Option Holder) → holder_told H z (holder H z) c ≡ o
        → (is_closing (unwrap_or o (holder H z)) && is_caller k (or_else (when (is_some o) k) (owner H z))) ≡ true → is_good_closing H k z ≡ true
    by_told None e h = h
    by_told (Some h) e both = absurd (differs (may_close c) none (leaves H z (holder H z) h c e (one_of_two (is_closing h) (is_caller k (or_else (when (is_some (Some h)) k) (owner H z))) both)))

left : (a b : Bool) → (a || b) ≡ false → a ≡ false
left a b e = grind (arith, e)

right : (a b : Bool) → (a || b) ≡ false → b ≡ false
right a b e = grind (arith, e)

older : (H : List Entry) (k : ℕ) (cs : List Change) (z : SlotId) → list_any may_close cs ≡ false → is_good_closing (after H k cs) k z ≡ true → is_good_closing H k z ≡ true
older H k [] z none good = good
older H k (c ∷ cs) z none good = step H k c z (left (may_close c) (list_any may_close cs) none) (older (record { caller = k; change = c } ∷ H) k cs z (right (may_close c) (list_any may_close cs) none) good)

-- no change of these leaves a slot closing
abbrev Quiet : List Change → Type 0
Quiet cs = list_any may_close cs ≡ false

quiet-map : (mk : ℕ → Change) (ns : List ℕ) → ((n : ℕ) → may_close (mk n) ≡ false) → Quiet (map mk ns)
quiet-map mk [] each = refl
quiet-map mk (n ∷ ns) each = rw (each n, quiet-map mk ns each) refl

quiet-append : (cs ds : List Change) → Quiet cs → Quiet ds → Quiet (cs ++ ds)
quiet-append [] ds first second = second
quiet-append (c ∷ cs) ds first second = grind (arith, first, quiet-append cs ds)

register-quiet : (c : HubConfig) (H : List Entry) (n : Registration) (m : ℕ) (o : Option ℕ) → Quiet (register_by c H n m o).changes
register-quiet c H n m (Some k) = refl
register-quiet c H n m None = grind arith

drain-quiet : (H : List Entry) (n m : ℕ) → Quiet (drained H n m).changes
drain-quiet H n m = grind arith

enqueue-quiet : (c : HubConfig) (H : List Entry) (choices : List (List Cap)) (m : ℕ) → Quiet (enqueued c H choices m).changes
enqueue-quiet c H choices m = grind arith

dispatch-quiet : (H : List Entry) (k m : ℕ) (o : Option Assignment) → Quiet (dispatched H k m o).changes
dispatch-quiet H k m None = refl
dispatch-quiet H k m (Some a) = refl

poll_open-quiet : (H : List Entry) (k q m : ℕ) (o : Option Assignment) → Quiet (polled_open H k q m o).changes
poll_open-quiet H k q m None = refl
poll_open-quiet H k q m (Some a) = grind arith

poll-quiet : (H : List Entry) (k q m : ℕ) (o : Option Outcome) → Quiet (polled H k q m o).changes
poll-quiet H k q m (Some o) = refl
poll-quiet H k q m None = by_late (nat_le (deadline_of H q) m)
  where
    late : Answer
    late = record { changes = change.TimedOut q (moment m) ∷ change.Taken q (moment m) ∷ []; reply = Reply.settled (outcome.TimedOut (moment (deadline_of H q))) }

    by_late : (t : Bool) → Quiet (cond t late (polled_open H k q m (chosen H m))).changes
    by_late true = refl
    by_late false = poll_open-quiet H k q m (chosen H m)

withdraw-quiet : (H : List Entry) (q m : ℕ) (o : Option Outcome) → Quiet (withdrawn H q m o).changes
withdraw-quiet H q m (Some o) = refl
withdraw-quiet H q m None = grind arith

sweep-quiet : (c : HubConfig) (H : List Entry) (k m : ℕ) → Quiet (swept c H k m).changes
sweep-quiet c H k m =
    let A = lapses c H m in
    let G = after H k A in
    let B = suspicions c G m in
    let C = time_outs H m in
    let D = removals G m in
    let a : Quiet A = quiet-map (λ n. change.Lapsed n (moment m)) (lapsed_nodes c H m) (λ n. refl) in
    let b : Quiet B = quiet-map (λ n. change.Suspected n (moment m)) (silent_nodes c G m) (λ n. refl) in
    let t : Quiet C = quiet-map (λ n. change.TimedOut n (moment m)) (overdue_requests H m) (λ n. refl) in
    let d : Quiet D = quiet-map (λ n. change.Removed n (moment m)) (drained_nodes G) (λ n. refl) in
    quiet-append ((A ++ B) ++ C) D (quiet-append (A ++ B) C (quiet-append A B a b) t) d

-- where it comes from
abbrev Comes : List Entry → ℕ → Call → Answer → SlotId → Type 0
Comes H k call a z = is_good_closing (after H k a.changes) k z ≡ true → ((is_good_closing H k z ≡ true) × (hands_closing call z ≡ false)) ⊎ (gives_closing a.reply z ≡ true)

by_quiet : (H : List Entry) (k : ℕ) (call : Call) (a : Answer) (z : SlotId) → Quiet a.changes → hands_closing call z ≡ false → Comes H k call a z
by_quiet H k call a z quiet none good = inl (older H k a.changes z quiet good, none)

-- an end whose binding was bound in the slot leaves just this slot closing
ended-tells : (H : List Entry) (z : SlotId) (before : Holder) (b m : ℕ) (e : EndCause) (x : Running) → bound_of H b ≡ Some x → slot_eq x.slot z ≡ false → holder_told H z before (change.Ended b e (moment m)) ≡ None
ended-tells H z before b m e x is other = rw (is, other) refl

end-comes : (H : List Entry) (k : ℕ) (call : Call) (b m : ℕ) (e : EndCause) (x : Running) (z : SlotId) (reply : Closing → Reply) → ((t : Closing) → gives_closing (reply t) z ≡ slot_eq t.slot z)
    → bound_of H b ≡ Some x → hands_closing call z ≡ false → Comes H k call (closes H k (change.Ended b e (moment m)) (Some x) reply) z
end-comes H k call b m e x z reply gives is none good = by_slot (slot_eq x.slot z) refl
  where
    made : Change
    made = change.Ended b e (moment m)

    by_slot : (v : Bool) → slot_eq x.slot z ≡ v
        → ((is_good_closing H k z ≡ true) × (hands_closing call z ≡ false)) ⊎ (gives_closing (reply (closing_of (after H k (made ∷ [])) x.slot x.session)) z ≡ true)
    by_slot true mine = inr (gives (closing_of (after H k (made ∷ [])) x.slot x.session) ∙ mine)
    by_slot false other = inl (untold H k made z (ended-tells H z (holder H z) b m e x is other) good, none)

quit-comes : (c : HubConfig) (H : List Entry) (k : ℕ) (x : List ℕ) (b m : ℕ) (z : SlotId) → LiveIsRunning → legal c H ≡ true
    → Comes H k (Call.end x b) (at_binding H x b (closes H k (change.Ended b cause.Quit (moment m)) (live H x) (λ t. Reply.ended t))) z
quit-comes c H k x b m z law l = by_live (live H x) refl
  where
    by_live : (o : Option Running) → live H x ≡ o
        → Comes H k (Call.end x b) (cond (is_binding b o) (closes H k (change.Ended b cause.Quit (moment m)) o (λ t. Reply.ended t)) (says Reply.no_session)) z
    by_live None e = λ good. inl (good, refl)
    by_live (Some r) e = by_binding (nat_eq r.binding b) refl
      where
        by_binding : (v : Bool) → nat_eq r.binding b ≡ v
            → Comes H k (Call.end x b) (cond v (closes H k (change.Ended b cause.Quit (moment m)) (Some r) (λ t. Reply.ended t)) (says Reply.no_session)) z
        by_binding true same =
            let runs : IsRunning H r × (r.session ≡ x) = (law c H x r l).0 e in
            let own : r.binding ≡ b = grind (arith, same) in
            end-comes H k (Call.end x b) b m cause.Quit r z (λ t. Reply.ended t) (λ t. refl) (subst (λ (n : ℕ). bound_of H n ≡ Some r) own runs.0.bound) refl
        by_binding false other = λ good. inl (good, refl)

expire-comes : (H : List Entry) (k m : ℕ) (o : Option ℕ) (z : SlotId) → Comes H k Call.expire (expired_by H k m o) z
expire-comes H k m None z = λ good. inl (good, refl)
expire-comes H k m (Some b) z = by_bound (bound_of H b) refl
  where
    by_bound : (o : Option Running) → bound_of H b ≡ o → Comes H k Call.expire (closes H k (change.Ended b cause.Idle (moment m)) o (λ t. Reply.expired t)) z
    by_bound None e = λ good. inl (good, refl)
    by_bound (Some x) e = end-comes H k Call.expire b m cause.Idle x z (λ t. Reply.expired t) (λ t. refl) e refl

-- each refusal of a bind gives the closing
refusal-gives : (w : FailWhy) (t : Closing) (z : SlotId) → gives_closing (refused_reply w t) z ≡ slot_eq t.slot z
refusal-gives why.Late t z = refl
refusal-gives why.NodeGone t z = refl
refusal-gives why.Duplicate t z = refl
refusal-gives w t z = refl

failed-tells : (H : List Entry) (z s : SlotId) (before : Holder) (q m : ℕ) (w : FailWhy) (orphan : Option (List ℕ)) (last : Bool) → slot_eq s z ≡ false → holder_told H z before (change.Failed q s w orphan last (moment m)) ≡ None
failed-tells H z s before q m w orphan last other = rw other refl

bind-comes : (H : List Entry) (k : ℕ) (call : Call) (q : ℕ) (s : SlotId) (x : List ℕ) (caps : List Cap) (m : ℕ) (o : Option FailWhy) (z : SlotId) → hands_closing call z ≡ false → Comes H k call (bound_by H k q s x caps m o) z
bind-comes H k call q s x caps m None z none good = inl (older H k (bound_by H k q s x caps m None).changes z (grind arith) good, none)
bind-comes H k call q s x caps m (Some w) z none good = by_slot (slot_eq s z) refl
  where
    made : Change
    made = change.Failed q s w (Some x) (is_last H q s) (moment m)

    by_slot : (v : Bool) → slot_eq s z ≡ v
        → ((is_good_closing H k z ≡ true) × (hands_closing call z ≡ false)) ⊎ (gives_closing (refused_reply w (closing_of (after H k (made ∷ [])) s x)) z ≡ true)
    by_slot true mine = inr (refusal-gives w (closing_of (after H k (made ∷ [])) s x) z ∙ mine)
    by_slot false other = inl (untold H k made z (failed-tells H z s (holder H z) q m w (Some x) (is_last H q s) other) good, none)

freed-comes : (H : List Entry) (k : ℕ) (t : Closing) (z : SlotId) (mine : Bool) → slot_eq t.slot z ≡ mine → Comes H k (Call.freed t) (makes (change.Freed t.slot) Reply.is_freed) z
freed-comes H k t z true mine good = absurd (grind (arith, mine, good))
freed-comes H k t z false other good = inl (older H k (change.Freed t.slot ∷ []) z refl good, other)

answer-comes : (c : HubConfig) (H : List Entry) (k : ℕ) (call : Call) (m : ℕ) (z : SlotId) → LiveIsRunning → legal c H ≡ true → Comes H k call (answer c H k call m) z
answer-comes c H k (Call.register n) m z law l = by_quiet H k (Call.register n) (register_by c H n m (find (is_named H n.name) (nodes H))) z (register-quiet c H n m (find (is_named H n.name) (nodes H))) refl
answer-comes c H k (Call.beat n name) m z law l = by_quiet H k (Call.beat n name) (answer c H k (Call.beat n name) m) z (grind arith) refl
answer-comes c H k (Call.drain n) m z law l = by_quiet H k (Call.drain n) (drained H n m) z (drain-quiet H n m) refl
answer-comes c H k (Call.remove n) m z law l = by_quiet H k (Call.remove n) (answer c H k (Call.remove n) m) z (grind arith) refl
answer-comes c H k (Call.enqueue choices) m z law l = by_quiet H k (Call.enqueue choices) (enqueued c H choices m) z (enqueue-quiet c H choices m) refl
answer-comes c H k (Call.poll t) m z law l = by_quiet H k (Call.poll t) (polled H k t.request m (outcome_of H t.request)) z (poll-quiet H k t.request m (outcome_of H t.request)) refl
answer-comes c H k (Call.withdraw t) m z law l = by_quiet H k (Call.withdraw t) (withdrawn H t.request m (outcome_of H t.request)) z (withdraw-quiet H t.request m (outcome_of H t.request)) refl
answer-comes c H k Call.dispatch m z law l = by_quiet H k Call.dispatch (dispatched H k m (chosen H m)) z (dispatch-quiet H k m (chosen H m)) refl
answer-comes c H k (Call.bind t x caps) m z law l = bind-comes H k (Call.bind t x caps) t.request t.slot x caps m (refusal_of H t.request t.slot x caps) z refl
answer-comes c H k (Call.fail t w) m z law l = by_quiet H k (Call.fail t w) (failed H t.request t.slot w m) z refl refl
answer-comes c H k (Call.lookup x) m z law l = λ good. inl (good, refl)
answer-comes c H k (Call.touch x b) m z law l = by_quiet H k (Call.touch x b) (answer c H k (Call.touch x b) m) z (grind arith) refl
answer-comes c H k (Call.end x b) m z law l = quit-comes c H k x b m z law l
answer-comes c H k (Call.freed t) m z law l = freed-comes H k t z (slot_eq t.slot z) refl
answer-comes c H k Call.sweep m z law l = by_quiet H k Call.sweep (swept c H k m) z (sweep-quiet c H k m) refl
answer-comes c H k Call.expire m z law l = expire-comes H k m (least nat_lt (idle_bindings c H m)) z
answer-comes c H k Call.clear m z law l = by_quiet H k Call.clear (cleared H m) z (quiet-map (λ n. change.Cleared n (moment m)) (waiting_requests H) (λ n. refl)) refl
answer-comes c H k Call.view m z law l = λ good. inl (good, refl)

pub closings-come : LiveIsRunning → ClosingsComeFromReplies
unfolding hub
closings-come law c H k call at z l good = answer-comes c H k call _ z law l good
