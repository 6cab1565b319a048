-- In a legal history the published map finds what is live.
use Rattle.std.proofs.Common.{◌≡◌, ℕ, zero, suc, ◌+◌, ◌≤◌, ◌<◌, Bool, true, false, cond, ◌||◌, List, [], ◌∷◌, map, length, refl, ap, sym, ◌∙◌, subst, arith}
use Rattle.std.specs.Prelude.{Option, None, Some, nat_eq, is_some, bytes_eq, filter_map}
use Rattle.std.specs.List.{list_any, cons_option}
use Rattle.grid_types.specs.declared.entry.Entry.{Entry}
use Rattle.grid_types.specs.declared.entry.Change.{Change}
use Rattle.grid_types.specs.declared.entry.Change.TheVariants as change
use Rattle.grid_types.specs.declared.entry.EndCause.{EndCause}
use Rattle.grid_types.specs.declared.names.SlotId.{SlotId}
use Rattle.grid_types.specs.declared.names.Moment.{Moment}
use Rattle.grid_types.specs.declared.capabilities.Cap.{Cap}
use Rattle.grid_types.specs.declared.config.HubConfig.{HubConfig}
use Rattle.grid_types.specs.Lists.{kept, or_else, numbers_from}
use Rattle.grid_types.specs.Nodes.{stereotypes_of, address_of}
use Rattle.grid_types.specs.Bindings.{Running, bound_of, running_told}
use Rattle.grid_types.specs.Slots.{Holder, free, held, busy, closing, holder, slot_at, slots_of}
use Rattle.grid_types.specs.Requests.{is_settled, is_taken, is_reserved, asked_of, outcome_of}
use Rattle.grid_types.specs.Sessions.{is_at_node, IsRunning, live, last_bound, is_of_session}
use Rattle.grid_types.specs.LookupMap.{Item, removal, find, removal_of, session_in, sessions_on, published, changes}
use Rattle.grid_types.specs.Legal.{legal}
use Rattle.grid_types.specs.Permitted.{permitted}
use Rattle.grid_types.specs.HubAnswers.{is_binding}
use Rattle.grid_types.proofs.PermittedLemmas.{permitted-Bound, permitted-Ended}
use Rattle.grid_types.proofs.HistoryLemmas.{is_settled-bound}
use Rattle.grid_types.proofs.SessionLemmas.{entry}
use Rattle.grid_types.proofs.LegalLemmas.{legal-before, legal-permitted, last_bound-running, bytes_eq-is, bytes_eq-same}
use Rattle.grid_types.proofs.RunningLemmas.{RunsAt, unsettled-held, running-of, busy-running, running-busy}
use Rattle.grid_types.proofs.NodeLemmas.{used-slot}

-- removals hide what they name
find-removals : (ys : List (List ℕ)) (M : List Item) (s : List ℕ) → find (published M (map (λ x. removal x) ys)) s ≡ cond (list_any (λ y. bytes_eq y s) ys) None (find M s)
find-removals [] M s = refl
find-removals (y ∷ ys) M s = grind (arith, find-removals ys (removal y ∷ M) s)

-- the holder is busy with the session
abbrev is_busy_with : List ℕ → Holder → Bool
is_busy_with s (busy x) = bytes_eq x s
is_busy_with s h = false

sessions-any : (H : List Entry) (s : List ℕ) (ts : List SlotId) → list_any (λ y. bytes_eq y s) (filter_map (λ t. session_in (holder H t)) ts) ≡ list_any (λ t. is_busy_with s (holder H t)) ts
sessions-any H s [] = refl
sessions-any H s (t ∷ ts) = by_holder (holder H t) (sessions-any H s ts)
  where
    by_holder : (h : Holder) → list_any (λ y. bytes_eq y s) (filter_map (λ t. session_in (holder H t)) ts) ≡ list_any (λ t. is_busy_with s (holder H t)) ts →
        list_any (λ y. bytes_eq y s) (cons_option (session_in h) (filter_map (λ t. session_in (holder H t)) ts)) ≡ (is_busy_with s h || list_any (λ t. is_busy_with s (holder H t)) ts)
    by_holder (busy x) e = ap (λ v. bytes_eq x s || v) e
    by_holder h e = e

-- some number passes, and a number that passes is found
any-number : (q : ℕ → SlotId) (p : SlotId → Bool) (a m : ℕ) → list_any p (map q (numbers_from a m)) ≡ true → (i : ℕ) × (p (q i) ≡ true)
any-number q p a zero h = absurd (cc)
any-number q p a (suc m) h = by_test (p (q a)) refl h (any-number q p (a + 1) m)
  where
    by_test : (v : Bool) → p (q a) ≡ v → (v || list_any p (map q (numbers_from (a + 1) m))) ≡ true → (list_any p (map q (numbers_from (a + 1) m)) ≡ true → (i : ℕ) × (p (q i) ≡ true)) → (i : ℕ) × (p (q i) ≡ true)
    by_test true e h rest = (a, e)
    by_test false e h rest = rest h

number-any : (q : ℕ → SlotId) (p : SlotId → Bool) (a m i : ℕ) → a ≤ i → i < a + m → p (q i) ≡ true → list_any p (map q (numbers_from a m)) ≡ true
number-any q p a zero i low high h = absurd (omega arith)
number-any q p a (suc m) i low high h = elim (nat_eq a i) as (λ v. nat_eq a i ≡ v → (p (q a) || list_any p (map q (numbers_from (a + 1) m))) ≡ true) [
  | true ↦ λ e. let same : a ≡ i = grind arith in grind arith
  | false ↦ λ e. let further : a + 1 ≤ i = grind arith in let within : i < (a + 1) + m = omega arith in grind (arith, number-any q p (a + 1) m i further within h)
] refl

-- what was bound last for a session is a binding's Bound
pub last_bound-bound : (c : HubConfig) (H : List Entry) (s : List ℕ) (x : Running) → legal c H ≡ true → last_bound H s ≡ Some x → bound_of H x.binding ≡ Some x
last_bound-bound c [] s x l h = cc
last_bound-bound c (e ∷ H) s x l h = by_change e.caller e.change (legal-permitted c e H l) h (last_bound-bound c H s x (legal-before c e H l))
  where
    by_change : (k : ℕ) (ch : Change) → permitted c H k ch ≡ true → last_bound (entry k ch ∷ H) s ≡ Some x → (last_bound H s ≡ Some x → bound_of H x.binding ≡ Some x) → bound_of (entry k ch ∷ H) x.binding ≡ Some x
    by_change k (change.Bound r t y cs at) p h before = elim (bytes_eq y s) as (λ v. bytes_eq y s ≡ v → bound_of (entry k (change.Bound r t y cs at) ∷ H) x.binding ≡ Some x) [
      | true ↦ λ e. grind arith
      | false ↦ λ e. let old : bound_of H x.binding ≡ Some x = before (grind arith) in
          let open_request : is_settled H r ≡ false = unsettled-held (is_taken H r) (outcome_of H r) (is_reserved H r) (is_some (asked_of H r)) (permitted-Bound c H k r t y cs at p).is_held in
          let closed : is_settled H x.binding ≡ true = is_settled-bound H x.binding x old in
          let other : nat_eq r x.binding ≡ false = grind arith in
          grind arith
    ] refl
    by_change k ch p h before = before h

pub last_bound-session : (H : List Entry) (s : List ℕ) (x : Running) → last_bound H s ≡ Some x → bytes_eq x.session s ≡ true
last_bound-session [] s x h = cc
last_bound-session (e ∷ H) s x h = by_change e.change h (last_bound-session H s x)
  where
    by_change : (ch : Change) → or_else (kept (is_of_session s) (running_told H ch)) (last_bound H s) ≡ Some x → (last_bound H s ≡ Some x → bytes_eq x.session s ≡ true) → bytes_eq x.session s ≡ true
    by_change (change.Bound r t y cs at) h before = grind (arith, before)
    by_change ch h before = before h

busy_with-is : (s : List ℕ) (h : Holder) → is_busy_with s h ≡ true → h ≡ busy s
busy_with-is s (busy x) e = ap (λ v. busy v) (bytes_eq-is x s e)
busy_with-is s free e = cc
busy_with-is s (held r) e = cc
busy_with-is s closing e = cc

-- whether a session runs on the node, by the slots that are busy with it
on_node : List Entry → ℕ → List ℕ → Bool
on_node H n s = list_any (λ y. bytes_eq y s) (sessions_on H n)

on_node-runs : (c : HubConfig) (H : List Entry) (n : ℕ) (s : List ℕ) → legal c H ≡ true → on_node H n s ≡ true → (i : ℕ) × RunsAt H (slot_at n i) s
unfolding on_node
on_node-runs c H n s l h =
    let found : (i : ℕ) × (is_busy_with s (holder H (slot_at n i)) ≡ true) =
    any-number (slot_at n) (λ t. is_busy_with s (holder H t)) 0 (length (stereotypes_of H n)) (sym (sessions-any H s (slots_of H n)) ∙ h) in
    (found.0, running-busy c H (slot_at n found.0) s l (busy_with-is s (holder H (slot_at n found.0)) found.1))

runs-on_node : (c : HubConfig) (H : List Entry) (x : Running) → legal c H ≡ true → IsRunning H x → on_node H x.slot.node x.session ≡ true
unfolding on_node
runs-on_node c H x l h =
    let busy : holder H x.slot ≡ busy x.session = busy-running c H x l h in
    let within : x.slot.index < length (stereotypes_of H x.slot.node) = used-slot c H x.slot l (rw busy refl) in
    let below : x.slot.index < 0 + length (stereotypes_of H x.slot.node) = omega arith in
    let low : 0 ≤ x.slot.index = omega arith in
    sessions-any H x.session (slots_of H x.slot.node)
    ∙ number-any (slot_at x.slot.node) (λ t. is_busy_with x.session (holder H t)) 0 (length (stereotypes_of H x.slot.node)) x.slot.index low below (rw busy (bytes_eq-same x.session))

-- what a Bound, an Ended and a Lapsed do to where a session is live
pub live-Bound : (c : HubConfig) (H : List Entry) (k r : ℕ) (t : SlotId) (y : List ℕ) (cs : List Cap) (at : Moment) (s : List ℕ) →
    legal c (entry k (change.Bound r t y cs at) ∷ H) ≡ true →
    live (entry k (change.Bound r t y cs at) ∷ H) s ≡ cond (bytes_eq y s) (Some (record { session = y; slot = t; address = address_of H t.node; binding = r })) (live H s)
live-Bound c H k r t y cs at s l = by_last (last_bound H s) refl
  where
    by_last : (o : Option Running) → last_bound H s ≡ o →
        live (entry k (change.Bound r t y cs at) ∷ H) s ≡ cond (bytes_eq y s) (Some (record { session = y; slot = t; address = address_of H t.node; binding = r })) (live H s)
    by_last None e = grind arith
    by_last (Some x) e =
        let p : permitted c H k (change.Bound r t y cs at) ≡ true = legal-permitted c (entry k (change.Bound r t y cs at)) H l in
        let open_request : is_settled H r ≡ false = unsettled-held (is_taken H r) (outcome_of H r) (is_reserved H r) (is_some (asked_of H r)) (permitted-Bound c H k r t y cs at p).is_held in
        let closed : is_settled H x.binding ≡ true = is_settled-bound H x.binding x (last_bound-bound c H s x (legal-before c (entry k (change.Bound r t y cs at)) H l) e) in
        let other : nat_eq r x.binding ≡ false = grind arith in
        grind arith

pub live-Ended : (H : List Entry) (k b : ℕ) (cause : EndCause) (at : Moment) (s : List ℕ) →
    live (entry k (change.Ended b cause at) ∷ H) s ≡ cond (is_binding b (live H s)) None (live H s)
live-Ended H k b cause at s = by_last (last_bound H s) refl
  where
    by_last : (o : Option Running) → last_bound H s ≡ o → live (entry k (change.Ended b cause at) ∷ H) s ≡ cond (is_binding b (live H s)) None (live H s)
    by_last None e = grind arith
    by_last (Some x) e = grind arith

pub live-Lapsed : (c : HubConfig) (H : List Entry) (k n : ℕ) (at : Moment) (s : List ℕ) → legal c H ≡ true →
    live (entry k (change.Lapsed n at) ∷ H) s ≡ cond (is_at_node n (live H s)) None (live H s)
live-Lapsed c H k n at s l = by_last (last_bound H s) refl
  where
    by_last : (o : Option Running) → last_bound H s ≡ o → live (entry k (change.Lapsed n at) ∷ H) s ≡ cond (is_at_node n (live H s)) None (live H s)
    by_last None e = grind arith
    by_last (Some x) e = let bound : bound_of H x.binding ≡ Some x = last_bound-bound c H s x l e in grind arith

-- where a session is live it runs
pub running-live : (c : HubConfig) (H : List Entry) (s : List ℕ) (x : Running) → legal c H ≡ true → live H s ≡ Some x → IsRunning H x × (x.session ≡ s)
running-live c H s x l h = by_last (last_bound H s) refl
  where
    by_last : (o : Option Running) → last_bound H s ≡ o → IsRunning H x × (x.session ≡ s)
    by_last None e = absurd (grind arith)
    by_last (Some y) e =
        let same : y ≡ x = grind arith in
        let here : last_bound H s ≡ Some x = grind arith in
        (record { bound = last_bound-bound c H s x l here; live = grind arith }, bytes_eq-is x.session s (last_bound-session H s x here))

pub live-running : (c : HubConfig) (H : List Entry) (x : Running) → legal c H ≡ true → IsRunning H x → live H x.session ≡ Some x
live-running c H x l h = let e : last_bound H x.session ≡ Some x = last_bound-running c H x l h in grind (arith, h.live)

pub live-of : (c : HubConfig) (H : List Entry) (s : List ℕ) (x : Running) → legal c H ≡ true → IsRunning H x → x.session ≡ s → live H s ≡ Some x
live-of c H s x l h e = subst (λ (z : List ℕ). live H z ≡ Some x) e (live-running c H x l h)

-- what is found in the map is where the session is live
pub find-changes : (c : HubConfig) (H : List Entry) (s : List ℕ) → legal c H ≡ true → find (changes H) s ≡ live H s
find-changes c [] s l = refl
find-changes c (e ∷ H) s l = by_change e.caller e.change l (legal-permitted c e H l) (legal-before c e H l) (find-changes c H s (legal-before c e H l))
  where
    by_change : (k : ℕ) (ch : Change) → legal c (entry k ch ∷ H) ≡ true → permitted c H k ch ≡ true → legal c H ≡ true → find (changes H) s ≡ live H s → find (changes (entry k ch ∷ H)) s ≡ live (entry k ch ∷ H) s
    by_change k (change.Bound r t y cs at) m p l before = rw (live-Bound c H k r t y cs at s m) (grind arith)
    by_change k (change.Ended b cause at) m p l before = by_running (running-of H b (permitted-Ended c H k b cause at p)) (live H s) refl
      where
        by_running : (y : Running) × (IsRunning H y) × (y.binding ≡ b) → (o : Option Running) → live H s ≡ o → find (published (changes H) (removal_of (bound_of H b))) s ≡ live (entry k (change.Ended b cause at) ∷ H) s
        by_running y None e =
            let bound : bound_of H b ≡ Some y.0 = rw (← y.2) y.1.bound in
            rw (live-Ended H k b cause at s, bound) (grind arith)
        by_running y (Some x) e =
            let bound : bound_of H b ≡ Some y.0 = rw (← y.2) y.1.bound in
            rw (live-Ended H k b cause at s, bound) (by_session (bytes_eq y.0.session s) refl)
          where
            by_session : (v : Bool) → bytes_eq y.0.session s ≡ v → cond (bytes_eq y.0.session s) None (find (changes H) s) ≡ cond (is_binding b (live H s)) None (live H s)
            by_session true d =
                let same_session : y.0.session ≡ s = bytes_eq-is y.0.session s d in
                let own : live H y.0.session ≡ Some y.0 = live-running c H y.0 l y.1 in
                let here : live H s ≡ Some y.0 = rw (← same_session) own in
                let one : Some x ≡ Some y.0 = sym e ∙ here in
                let same : nat_eq x.binding b ≡ true = grind arith in
                rw (d, e) (rw same refl)
            by_session false d = by_binding (nat_eq x.binding b) refl
              where
                by_binding : (w : Bool) → nat_eq x.binding b ≡ w → cond (bytes_eq y.0.session s) None (find (changes H) s) ≡ cond (is_binding b (live H s)) None (live H s)
                by_binding true same =
                    let at_b : x.binding ≡ b = grind arith in
                    let bound : bound_of H b ≡ Some y.0 = rw (← y.2) y.1.bound in
                    let runs : IsRunning H x × (x.session ≡ s) = running-live c H s x l e in
                    let At : ℕ → Type 0 = λ z. bound_of H z ≡ Some x in
                    let one : Some x ≡ Some y.0 = sym (subst At at_b runs.0.bound) ∙ bound in
                    let session : y.0.session ≡ s = grind (arith, runs.1) in
                    let hit : bytes_eq y.0.session s ≡ true = rw session (bytes_eq-same s) in
                    absurd (grind arith)
                by_binding false other = rw (d, e) (rw other (before ∙ e))
    by_change k (change.Lapsed n at) m p l before = rw (find-removals (sessions_on H n) (changes H) s, live-Lapsed c H k n at s l) (unfold on_node in by_node (on_node H n s) refl (live H s) refl)
      where
        by_node : (v : Bool) → on_node H n s ≡ v → (o : Option Running) → live H s ≡ o → cond (on_node H n s) None (find (changes H) s) ≡ cond (is_at_node n (live H s)) None (live H s)
        by_node true e o d =
            let found : (i : ℕ) × RunsAt H (slot_at n i) s = on_node-runs c H n s l e in
            let own : live H found.1.which.session ≡ Some found.1.which = live-running c H found.1.which l found.1.runs in
            let At : List ℕ → Type 0 = λ z. live H z ≡ Some found.1.which in
            let here : live H s ≡ Some found.1.which = subst At found.1.session own in
            let node : nat_eq found.1.which.slot.node n ≡ true = grind (arith, found.1.slot) in
            rw (e, here) (rw node refl)
        by_node false e None d = rw (e, d) (before ∙ d)
        by_node false e (Some x) d = by_place (nat_eq x.slot.node n) refl
          where
            by_place : (w : Bool) → nat_eq x.slot.node n ≡ w → cond (on_node H n s) None (find (changes H) s) ≡ cond (is_at_node n (live H s)) None (live H s)
            by_place true same =
                let runs : IsRunning H x × (x.session ≡ s) = running-live c H s x l d in
                let node : x.slot.node ≡ n = grind arith in
                let hit : on_node H n s ≡ true = rw (← node, ← runs.1) (runs-on_node c H x l runs.0) in
                absurd (grind arith)
            by_place false other = rw (e, d) (rw other (before ∙ d))
    by_change k ch m p l before = before
