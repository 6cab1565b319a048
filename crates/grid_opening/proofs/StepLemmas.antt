-- What one entry of a settling does to a history.
use Rattle.std.proofs.Common.{◌≡◌, ◌⊎◌, inl, inr, ℕ, ◌≤◌, Bool, true, false, not, ◌&&◌, cond, nat_eq, nat_le, List, [], ◌∷◌, refl, sym, ◌∙◌, ap, subst, arith}
use Rattle.std.specs.Prelude.{Option, None, Some, is_some}
use Rattle.std.proofs.lemmas.Bool.Decides.{nat_tests}
use Rattle.grid_types.specs.declared.config.HubConfig.{HubConfig}
use Rattle.grid_types.specs.declared.entry.Change.{Change}
use Rattle.grid_types.specs.declared.entry.Change.TheVariants as change
use Rattle.grid_types.specs.declared.entry.EndCause.TheVariants as cause
use Rattle.grid_types.specs.declared.entry.Entry.{Entry}
use Rattle.grid_types.specs.declared.entry.FailWhy.TheVariants as why
use Rattle.grid_types.specs.declared.entry.Outcome.{Outcome}
use Rattle.grid_types.specs.declared.entry.Outcome.TheVariants as outcome
use Rattle.grid_types.specs.declared.names.Moment.{Moment}
use Rattle.grid_types.specs.declared.names.SlotId.{SlotId}
use Rattle.grid_types.specs.Bindings.{bound_slot}
use Rattle.grid_types.specs.History.{clock}
use Rattle.grid_types.specs.HistoryLaws.{Known, laws}
use Rattle.grid_types.specs.Legal.{legal}
use Rattle.grid_types.specs.Nodes.{address_of}
use Rattle.grid_types.specs.Permitted.{bool_eq, has_slot, is_last, permitted}
use Rattle.grid_types.specs.Requests.{Place, unknown, waiting, held as held_place, settled, taken, asked_of, deadline_of, is_reserved, is_settled, is_taken, is_unsettled, is_waiting, outcome_of, place, place_by}
use Rattle.grid_types.specs.Slots.{Holder, free, held, busy, closing, holder, is_closing, is_held_slot, names_slot, owner, slot_eq}
use Rattle.grid_types.specs.Tables.{entry}
use Rattle.session_queue.specs.Table.{is_gone}
use Rattle.grid_opening.specs.declared.settling.SlotWork.{SlotWork}
use Rattle.grid_opening.specs.declared.settling.SlotWork.TheVariants as work
use Rattle.grid_opening.specs.Settling.{Clears, ClearsOne, Ends, IsRequest, IsSlot, IsUntakenOf, NoHeld, Passes, Stays, TakesGiven, is_untaken, wants, with_change}

-- by whether the change may follow
by_change : (c : HubConfig) (H : List Entry) (k : ℕ) (ch : Change) (R : List Entry → Type 0) →
    (permitted c H k ch ≡ true → R (entry k ch ∷ H)) → (permitted c H k ch ≡ false → R H) → R (with_change c H k ch)
by_change c H k ch R made none = by_test (permitted c H k ch) refl
  where
    by_test : (b : Bool) → permitted c H k ch ≡ b → R (cond b (entry k ch ∷ H) H)
    by_test true e = made e
    by_test false e = none e

true_and : (a b : Bool) → a ≡ true → b ≡ true → (a && b) ≡ true
true_and true true e f = refl
true_and a b e f = cc

in_time : (m n : ℕ) → m ≤ n → nat_le m n ≡ true
in_time m n h = grind (arith, nat_tests)

same_number : (n : ℕ) → nat_eq n n ≡ true
same_number n = grind (arith, nat_tests)

same_bool : (b : Bool) → bool_eq b b ≡ true
same_bool true = refl
same_bool false = refl

not_both : {A : Type 0} (b : Bool) → b ≡ false → b ≡ true → A
not_both true e f = cc
not_both false e f = cc

-- nothing happened
passes_none : (at : ℕ) (H : List Entry) → Passes at H H
passes_none at H = record { in_time = λ h. h; same_nodes = refl; same_requests = refl }

-- ---- starts that are given up

abbrev pub failing : Moment → ℕ → SlotId → Bool → Change
failing at r s last = change.Failed r s why.Unreachable None last at

fail_permitted : (c : HubConfig) (H : List Entry) (k r : ℕ) (s : SlotId) (last : Bool) (at : Moment) →
    holder H s ≡ held r → owner H s ≡ Some k → last ≡ is_last H r s → clock H ≤ at.0 → permitted c H k (failing at r s last) ≡ true
unfolding permitted
fail_permitted c H k r s last at held_as owned told early =
    let has : has_slot H k r s ≡ true = rw (held_as, owned) (true_and (nat_eq r r) (nat_eq k k) (same_number r) (same_number k)) in
    let same : bool_eq last (is_last H r s) ≡ true = rw (sym told) (same_bool last) in
    true_and _ _ (true_and _ _ (true_and _ _ (in_time (clock H) at.0 early) has) refl) same

pub let_go_step : Known → (c : HubConfig) (H : List Entry) (k r : ℕ) (s : SlotId) (last : Bool) (at : Moment) →
    holder H s ≡ held r → owner H s ≡ Some k → last ≡ is_last H r s → Clears work.LetGo at.0 (IsSlot s) H (with_change c H k (failing at r s last))
let_go_step proved c H k r s last at held_as owned told = by_change c H k (failing at r s last) (Clears work.LetGo at.0 (IsSlot s) H)
    (λ p. record {
      passes = record { in_time = λ h. omega (arith, h); same_nodes = refl; same_requests = refl };
      others = λ t. by_slot t (slot_eq s t) refl;
      places = λ e. absurd (cc);
      done = λ early t same. subst (λ (u : SlotId). is_held_slot (holder (entry k (failing at r s last) ∷ H) u) ≡ false) (sym same) here;
    })
    (λ p. record {
      passes = passes_none at.0 H;
      others = λ t. inl refl;
      places = λ e. absurd (cc);
      done = λ early. not_both _ p (fail_permitted c H k r s last at held_as owned told early);
    })
  where
    by_slot : (t : SlotId) (b : Bool) → slot_eq s t ≡ b → (holder (entry k (failing at r s last) ∷ H) t ≡ holder H t) ⊎ (holder (entry k (failing at r s last) ∷ H) t ≡ free)
    by_slot t true e = inr (rw e refl)
    by_slot t false e = inl (rw e refl)

    here : is_held_slot (holder (entry k (failing at r s last) ∷ H) s) ≡ false
    here = rw ((laws proved).slot_eq-same s) refl

-- ---- slots that are freed

free_permitted : (c : HubConfig) (H : List Entry) (k : ℕ) (s : SlotId) → holder H s ≡ closing → owner H s ≡ Some k → permitted c H k (change.Freed s) ≡ true
unfolding permitted
free_permitted c H k s held_as owned = rw (held_as, owned) (same_number k)

pub free_step : Known → (c : HubConfig) (H : List Entry) (k : ℕ) (s : SlotId) (at : ℕ) →
    holder H s ≡ closing → owner H s ≡ Some k → Clears work.Free at (IsSlot s) H (with_change c H k (change.Freed s))
free_step proved c H k s at held_as owned = by_change c H k (change.Freed s) (Clears work.Free at (IsSlot s) H)
    (λ p. record {
      passes = record { in_time = λ h. omega (arith, h); same_nodes = refl; same_requests = refl };
      others = λ t. by_slot t (slot_eq s t) refl;
      places = λ e r. refl;
      done = λ early t same. subst (λ (u : SlotId). is_closing (holder (entry k (change.Freed s) ∷ H) u) ≡ false) (sym same) here;
    })
    (λ p. not_both _ p (free_permitted c H k s held_as owned))
  where
    by_slot : (t : SlotId) (b : Bool) → slot_eq s t ≡ b → (holder (entry k (change.Freed s) ∷ H) t ≡ holder H t) ⊎ (holder (entry k (change.Freed s) ∷ H) t ≡ free)
    by_slot t true e = inr (rw e refl)
    by_slot t false e = inl (rw e refl)

    here : is_closing (holder (entry k (change.Freed s) ∷ H) s) ≡ false
    here = rw ((laws proved).slot_eq-same s) refl

-- a slot that wants no such work is left alone
pub clears_none : (which : SlotWork) (at : ℕ) (slots : SlotId → Type 0) (H : List Entry) → ((s : SlotId) → slots s → wants which (holder H s) ≡ false) → Clears which at slots H H
clears_none which at slots H none = record { passes = passes_none at H; others = λ t. inl refl; places = λ e r. refl; done = λ early. none }

-- ---- a request that is held has a slot

held_not : (s : Holder) (r : ℕ) → s ≡ held r → is_held_slot s ≡ true
held_not s r e = rw e refl

not_closing : (q : ℕ) → closing ≡ held q → ⊥
not_closing q e = not_both false refl (ap is_held_slot e)

not_free : (q : ℕ) → free ≡ held q → ⊥
not_free q e = not_both false refl (ap is_held_slot e)

held_same : (p q : ℕ) → held p ≡ held q → p ≡ q
held_same p q e = cc

not_same : (q x r : ℕ) → held q ≡ held x → x ≡ r → nat_eq q r ≡ false → ⊥
not_same q x r e f g = let same : q ≡ r = held_same q x e ∙ f in not_both (nat_eq q r) g (grind (arith, nat_tests, same))

-- the slot of a request that is held
pub held-somewhere : Known → (c : HubConfig) (H : List Entry) (r : ℕ) → legal c H ≡ true → place H r ≡ held_place → (s : SlotId) × (holder H s ≡ held r)
held-somewhere proved c [] r l h = absurd (cc)
held-somewhere proved c (e ∷ H) r l h = by_entry e.caller e.change ((laws proved).legal-permitted c e H l) h (held-somewhere proved c H r before)
  where
    before : legal c H ≡ true
    before = (laws proved).legal-before c e H l

    Found : List Entry → Type 0
    Found G = (s : SlotId) × (holder G s ≡ held r)

    -- the slot of another request, or one that is not held, is another slot
    other_slot : (u s : SlotId) → ((q : ℕ) → holder H u ≡ held q → q ≡ r → ⊥) → holder H s ≡ held r → slot_eq u s ≡ false
    other_slot u s differs there = by_test (slot_eq u s) refl
      where
        by_test : (b : Bool) → slot_eq u s ≡ b → slot_eq u s ≡ false
        by_test false e = e
        by_test true e = absurd (differs r (ap (holder H) ((laws proved).slot_eq-is u s e) ∙ there) refl)

    by_entry : (k : ℕ) (ch : Change) → permitted c H k ch ≡ true → place (entry k ch ∷ H) r ≡ held_place → (place H r ≡ held_place → Found H) → Found (entry k ch ∷ H)
    by_entry k (change.Queued q choices d at) p h was = by_test (nat_eq q r) refl
      where
        moved : place (entry k (change.Queued q choices d at) ∷ H) r ≡ cond (nat_eq q r) waiting (place H r)
        moved = (laws proved).place-Queued c H k q r choices d at before p

        by_test : (b : Bool) → nat_eq q r ≡ b → Found (entry k (change.Queued q choices d at) ∷ H)
        by_test true e = absurd (grind (arith, moved, h, e))
        by_test false e = let there = was (grind (arith, moved, h, e)) in (there.0, there.1)
    by_entry k (change.Reserved q u choice at) p h was = by_test (nat_eq q r) refl
      where
        moved : place (entry k (change.Reserved q u choice at) ∷ H) r ≡ cond (nat_eq q r) held_place (place H r)
        moved = (laws proved).place-Reserved c H k q r u choice at p

        unused : holder H u ≡ free
        unused = ((laws proved).permitted-Reserved c H k q u choice at p).is_free

        by_test : (b : Bool) → nat_eq q r ≡ b → Found (entry k (change.Reserved q u choice at) ∷ H)
        by_test true e = (u, rw ((laws proved).slot_eq-same u) (let same : q ≡ r = grind (arith, nat_tests) in ap held same))
        by_test false e = let there = was (grind (arith, moved, h, e)) in
            (there.0, rw (other_slot u there.0 (λ x y z. not_free x (sym unused ∙ y)) there.1) there.1)
    by_entry k (change.Bound q u x cs at) p h was = by_test (nat_eq q r) refl
      where
        moved : place (entry k (change.Bound q u x cs at) ∷ H) r ≡ cond (nat_eq q r) (settled (outcome.Created x cs u (address_of H u.node) q)) (place H r)
        moved = (laws proved).place-Bound c H k q r u x cs at p

        named : holder H u ≡ held q
        named = ((laws proved).permitted-Bound c H k q u x cs at p).holder

        by_test : (b : Bool) → nat_eq q r ≡ b → Found (entry k (change.Bound q u x cs at) ∷ H)
        by_test true e = absurd (grind (arith, moved, h, e))
        by_test false e = let there = was (grind (arith, moved, h, e)) in
            (there.0, rw (other_slot u there.0 (λ x y z. not_same q x r (sym named ∙ y) z e) there.1) there.1)
    by_entry k (change.Failed q u w o last at) p h was = by_test (nat_eq q r) refl
      where
        moved : place (entry k (change.Failed q u w o last at) ∷ H) r ≡ cond (nat_eq q r) (cond last (settled (outcome.StartFailed w)) (cond (is_settled H q) (place H q) waiting)) (place H r)
        moved = (laws proved).place-Failed c H k q r u w o last at before p

        named : holder H u ≡ held q
        named = ((laws proved).permitted-Failed c H k q u w o last at p).holder

        by_test : (b : Bool) → nat_eq q r ≡ b → Found (entry k (change.Failed q u w o last at) ∷ H)
        by_test true e = absurd (grind (arith, moved, h, e, (laws proved).closed H q))
        by_test false e = let there = was (grind (arith, moved, h, e)) in
            (there.0, rw (other_slot u there.0 (λ x y z. not_same q x r (sym named ∙ y) z e) there.1) there.1)
    by_entry k (change.TimedOut q at) p h was = by_test (nat_eq q r) refl
      where
        moved : place (entry k (change.TimedOut q at) ∷ H) r ≡ cond (nat_eq q r) (settled (outcome.TimedOut (record { 0 = deadline_of H q }))) (place H r)
        moved = (laws proved).place-TimedOut c H k q r at p

        by_test : (b : Bool) → nat_eq q r ≡ b → Found (entry k (change.TimedOut q at) ∷ H)
        by_test true e = absurd (grind (arith, moved, h, e))
        by_test false e = let there = was (grind (arith, moved, h, e)) in (there.0, there.1)
    by_entry k (change.Cleared q at) p h was = by_test (nat_eq q r) refl
      where
        moved : place (entry k (change.Cleared q at) ∷ H) r ≡ cond (nat_eq q r) (settled outcome.Cleared) (place H r)
        moved = (laws proved).place-Cleared c H k q r at p

        by_test : (b : Bool) → nat_eq q r ≡ b → Found (entry k (change.Cleared q at) ∷ H)
        by_test true e = absurd (grind (arith, moved, h, e))
        by_test false e = let there = was (grind (arith, moved, h, e)) in (there.0, there.1)
    by_entry k (change.Taken q at) p h was = by_test (nat_eq q r) refl
      where
        moved : place (entry k (change.Taken q at) ∷ H) r ≡ cond (nat_eq q r) taken (place H r)
        moved = (laws proved).place-Taken H k q r at

        by_test : (b : Bool) → nat_eq q r ≡ b → Found (entry k (change.Taken q at) ∷ H)
        by_test true e = absurd (grind (arith, moved, h, e))
        by_test false e = let there = was (grind (arith, moved, h, e)) in (there.0, there.1)
    by_entry k (change.Freed u) p h was =
        let there = was h in
        let ends : holder H u ≡ closing = (laws proved).permitted-Freed c H k u p in
        let not_it : (q : ℕ) → holder H u ≡ held q → q ≡ r → ⊥ = λ x y z. not_closing x (sym ends ∙ y) in
        (there.0, rw (other_slot u there.0 not_it there.1) there.1)
    by_entry k (change.Ended b ending at) p h was = by_test (names_slot (was h).0 (bound_slot H b)) refl
      where
        by_test : (v : Bool) → names_slot (was h).0 (bound_slot H b) ≡ v → Found (entry k (change.Ended b ending at) ∷ H)
        by_test true e = absurd (grind (arith, (was h).1, (laws proved).ended-busy c H (was h).0 b before ((laws proved).permitted-Ended c H k b ending at p) e))
        by_test false e = ((was h).0, rw e (was h).1)
    by_entry k (change.Lapsed n at) p h was = by_test (nat_eq n (was h).0.node) refl
      where
        by_test : (v : Bool) → nat_eq n (was h).0.node ≡ v → Found (entry k (change.Lapsed n at) ∷ H)
        by_test true e = ((was h).0, rw (e, (was h).1) refl)
        by_test false e = ((was h).0, rw e (was h).1)
    by_entry k ch p h was = let there = was h in (there.0, there.1)

not_held : Known → (c : HubConfig) (H : List Entry) (r : ℕ) → legal c H ≡ true → NoHeld H → place H r ≡ held_place → ⊥
not_held proved c H r l none h =
    let found = held-somewhere proved c H r l h in
    not_both (is_held_slot (holder H found.0)) (none found.0) (held_not (holder H found.0) r found.1)

-- ---- requests that are cleared

waiting-is : (p : Place) → is_waiting p ≡ true → p ≡ waiting
waiting-is waiting e = refl
waiting-is p e = cc

clear_permitted : (c : HubConfig) (H : List Entry) (k r : ℕ) (at : Moment) → is_waiting (place H r) ≡ true → clock H ≤ at.0 → permitted c H k (change.Cleared r at) ≡ true
unfolding permitted
clear_permitted c H k r at waits early = true_and _ _ (in_time (clock H) at.0 early) waits

-- a place where a request neither waits nor is held
not_open : (p : Place) → is_waiting p ≡ false → (p ≡ held_place → ⊥) → is_unsettled p ≡ false
not_open waiting e h = cc
not_open held_place e h = absurd (h refl)
not_open unknown e h = refl
not_open (settled o) e h = refl
not_open taken e h = refl

pub clear_step : Known → (c : HubConfig) (H : List Entry) (k r : ℕ) (at : Moment) → legal c H ≡ true → ClearsOne at.0 r H (with_change c H k (change.Cleared r at))
clear_step proved c H k r at l = by_change c H k (change.Cleared r at) (ClearsOne at.0 r H)
    (λ p. record {
      passes = record { in_time = λ h. omega (arith, h); same_nodes = refl; same_requests = refl };
      held = λ none. none;
      gone = λ q g. still p q g (nat_eq r q) refl;
      settled = λ early none. rw ((laws proved).place-Cleared c H k r r at p, same_number r) refl;
    })
    (λ p. record {
      passes = passes_none at.0 H;
      held = λ none. none;
      gone = λ q g. g;
      settled = λ early none. not_open (place H r) (by_wait (is_waiting (place H r)) refl p early) (not_held proved c H r l none);
    })
  where
    by_wait : (b : Bool) → is_waiting (place H r) ≡ b → permitted c H k (change.Cleared r at) ≡ false → clock H ≤ at.0 → is_waiting (place H r) ≡ false
    by_wait false e p early = e
    by_wait true e p early = not_both _ p (clear_permitted c H k r at e early)

    still : permitted c H k (change.Cleared r at) ≡ true → (q : ℕ) → is_gone (place H q) ≡ true → (b : Bool) → nat_eq r q ≡ b → is_gone (place (entry k (change.Cleared r at) ∷ H) q) ≡ true
    still p q g true e =
        let waits : place H r ≡ waiting = (laws proved).permitted-Cleared c H k r at p in
        let same : r ≡ q = grind (arith, nat_tests) in
        absurd (grind (arith, g, waits, same))
    still p q g false e = rw ((laws proved).place-Cleared c H k r q at p, e) g

-- ---- sessions that are ended

pub end_step : Known → (c : HubConfig) (H : List Entry) (k r : ℕ) (at : Moment) → Ends at.0 H (with_change c H k (change.Ended r cause.Quit at))
end_step proved c H k r at = by_change c H k (change.Ended r cause.Quit at) (Ends at.0 H)
    (λ p. record {
      passes = record { in_time = λ h. omega (arith, h); same_nodes = refl; same_requests = refl };
      held = λ none s. by_slot s (names_slot s (bound_slot H r)) refl (none s);
      places = λ q. refl;
      asked = λ q. refl;
    })
    (λ p. ends_none at.0 H)
  where
    by_slot : (s : SlotId) (b : Bool) → names_slot s (bound_slot H r) ≡ b → is_held_slot (holder H s) ≡ false → is_held_slot (holder (entry k (change.Ended r cause.Quit at) ∷ H) s) ≡ false
    by_slot s true e none = rw e refl
    by_slot s false e none = rw e none

    ends_none : (at : ℕ) (G : List Entry) → Ends at G G
    ends_none at G = record { passes = passes_none at G; held = λ none. none; places = λ q. refl; asked = λ q. refl }

pub ends_none : (at : ℕ) (H : List Entry) → Ends at H H
ends_none at H = record { passes = passes_none at H; held = λ none. none; places = λ q. refl; asked = λ q. refl }

-- ---- outcomes that are taken

untaken_parts : (t : Bool) (o : Option Outcome) (v a : Bool) → is_untaken (place_by t o v a) ≡ true → (is_some o ≡ true) × (t ≡ false)
untaken_parts true o v a e = cc
untaken_parts false (Some o) v a e = (refl, refl)
untaken_parts false None true a e = cc
untaken_parts false None false true e = cc
untaken_parts false None false false e = cc

take_permitted : (c : HubConfig) (H : List Entry) (k r : ℕ) (at : Moment) → IsUntakenOf k r H → clock H ≤ at.0 → permitted c H k (change.Taken r at) ≡ true
unfolding permitted
take_permitted c H k r at untaken early =
    let parts = untaken_parts (is_taken H r) (outcome_of H r) (is_reserved H r) (is_some (asked_of H r)) untaken.stands in
    true_and _ _ (true_and _ _ (true_and _ _ (in_time (clock H) at.0 early) parts.0) (ap not parts.1)) untaken.asker

pub take_step : Known → (c : HubConfig) (H : List Entry) (k r : ℕ) (at : Moment) → TakesGiven at.0 (IsUntakenOf k r) (IsRequest r) H (with_change c H k (change.Taken r at))
take_step proved c H k r at = by_change c H k (change.Taken r at) (TakesGiven at.0 (IsUntakenOf k r) (IsRequest r) H)
    (λ p. record {
      passes = record { in_time = λ h. omega (arith, h); same_nodes = refl; same_requests = refl };
      held = λ none. none;
      gone = λ q g. still q g (nat_eq r q) refl;
      done = λ early given q same. subst (λ (n : ℕ). is_gone (place (entry k (change.Taken r at) ∷ H) n) ≡ true) (sym same) here;
    })
    (λ p. record {
      passes = passes_none at.0 H;
      held = λ none. none;
      gone = λ q g. g;
      done = λ early given. not_both _ p (take_permitted c H k r at given early);
    })
  where
    here : is_gone (place (entry k (change.Taken r at) ∷ H) r) ≡ true
    here = rw ((laws proved).place-Taken H k r r at, same_number r) refl

    still : (q : ℕ) → is_gone (place H q) ≡ true → (b : Bool) → nat_eq r q ≡ b → is_gone (place (entry k (change.Taken r at) ∷ H) q) ≡ true
    still q g true e = rw ((laws proved).place-Taken H k r q at, e) refl
    still q g false e = rw ((laws proved).place-Taken H k r q at, e) g

-- ---- signs and uses

stays_none : (H : List Entry) → Stays H H
stays_none H = record { holders = λ s. refl; places = λ r. refl }

pub drain_step : (c : HubConfig) (H : List Entry) (k n : ℕ) (at : Moment) → Stays H (with_change c H k (change.Draining n at))
drain_step c H k n at = by_change c H k (change.Draining n at) (Stays H) (λ p. record { holders = λ s. refl; places = λ r. refl }) (λ p. stays_none H)

pub beat_step : (c : HubConfig) (H : List Entry) (k n : ℕ) (at : Moment) → Stays H (with_change c H k (change.Beaten n at))
beat_step c H k n at = by_change c H k (change.Beaten n at) (Stays H) (λ p. record { holders = λ s. refl; places = λ r. refl }) (λ p. stays_none H)

pub touch_step : (c : HubConfig) (H : List Entry) (k b : ℕ) (at : Moment) → Stays H (with_change c H k (change.Touched b at))
touch_step c H k b at = by_change c H k (change.Touched b at) (Stays H) (λ p. record { holders = λ s. refl; places = λ r. refl }) (λ p. stays_none H)
