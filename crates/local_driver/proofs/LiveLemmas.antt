-- One session fewer runs once an idle one is ended.
use Rattle.std.proofs.Common.{◌≡◌, ◌⊎◌, ℕ, ◌<◌, ◌≤◌, Bool, true, false, cond, List, [], ◌∷◌, length, refl, sym, subst, ◌∙◌, arith, inl, inr}
use Rattle.std.specs.Prelude.{Option, None, Some, unwrap_or, filter, nat_eq, nat_lt, max, nat_le, ◌-◌}
use Rattle.grid_types.specs.declared.config.HubConfig.{HubConfig}
use Rattle.grid_types.specs.declared.entry.Entry.{Entry}
use Rattle.grid_types.specs.declared.entry.Change.TheVariants as change
use Rattle.grid_types.specs.declared.entry.EndCause.{EndCause}
use Rattle.grid_types.specs.declared.entry.EndCause.TheVariants as cause
use Rattle.grid_types.specs.declared.names.Moment.{Moment}
use Rattle.grid_types.specs.Lists.{least, better, when, or_else}
use Rattle.grid_types.specs.History.{clock, after, last_told}
use Rattle.grid_types.specs.Bindings.{Running, bindings, bound_of}
use Rattle.grid_types.specs.Sessions.{is_live, live_told, live_bindings, active}
use Rattle.grid_types.specs.Tokens.{Closing}
use Rattle.grid_types.specs.Calls.{Call, Reply}
use Rattle.grid_types.specs.HubAnswers.{hub, idle_bindings, expired_by, closes, moment}
use Rattle.hub_core.specs.Answers.{Answers}
use Rattle.local_driver.specs.Idles.{live_count}

-- ---- lists of numbers

abbrev Has : ℕ → List ℕ → Type 0
Has b [] = ⊥
Has b (x ∷ xs) = (x ≡ b) ⊎ Has b xs

least_has : (xs : List ℕ) (b : ℕ) → least nat_lt xs ≡ Some b → Has b xs
least_has [] b e = absurd cc
least_has (x ∷ xs) b e = by_rest (λ k f. least_has xs k f) (least nat_lt xs) refl e
  where
    by_test : (y : ℕ) → Has y xs → (t : Bool) → Some (cond t y x) ≡ Some b → Has b (x ∷ xs)
    by_test y there true g = let same : y ≡ b = cc in inr (subst (λ (k : ℕ). Has k xs) same there)
    by_test y there false g = inl cc

    by_rest : ((k : ℕ) → least nat_lt xs ≡ Some k → Has k xs) → (o : Option ℕ) → least nat_lt xs ≡ o → better nat_lt x o ≡ Some b → Has b (x ∷ xs)
    by_rest again None is h = inl cc
    by_rest again (Some y) is h = by_test y (again y is) (nat_lt y x) h

filter_has : (p : ℕ → Bool) (xs : List ℕ) (b : ℕ) → Has b (filter p xs) → Has b xs × (p b ≡ true)
filter_has p [] b h = absurd h
filter_has p (x ∷ xs) b h = by_test (λ there. filter_has p xs b there) (p x) refl h
  where
    by_test : (Has b (filter p xs) → Has b xs × (p b ≡ true)) → (t : Bool) → p x ≡ t → Has b (cond t (x ∷ filter p xs) (filter p xs)) → Has b (x ∷ xs) × (p b ≡ true)
    by_test again true e (inl is) = (inl is, subst (λ (y : ℕ). p y ≡ true) is e)
    by_test again true e (inr there) = let r = again there in (inr r.0, r.1)
    by_test again false e there = let r = again there in (inr r.0, r.1)

never : false ≡ true → ⊥
never z = cc

-- a list of which a test lets fewer pass
no_longer : (p q : ℕ → Bool) (xs : List ℕ) → ((x : ℕ) → q x ≡ true → p x ≡ true) → length (filter q xs) ≤ length (filter p xs)
no_longer p q [] sub = omega arith
no_longer p q (x ∷ xs) sub = by_tests (no_longer p q xs sub) (q x) (p x) refl refl
  where
    by_tests : length (filter q xs) ≤ length (filter p xs) → (t u : Bool) → q x ≡ t → p x ≡ u →
        length (cond t (x ∷ filter q xs) (filter q xs)) ≤ length (cond u (x ∷ filter p xs) (filter p xs))
    by_tests rest true true e f = omega (arith, rest)
    by_tests rest false true e f = omega (arith, rest)
    by_tests rest false false e f = rest
    by_tests rest true false e f = absurd (never (sym f ∙ sub x e))

shorter : (p q : ℕ → Bool) (xs : List ℕ) (b : ℕ) → ((x : ℕ) → q x ≡ true → p x ≡ true) → Has b xs → p b ≡ true → q b ≡ false →
    length (filter q xs) < length (filter p xs)
shorter p q [] b sub h passes fails = absurd h
shorter p q (x ∷ xs) b sub (inl is) passes fails =
    by_tests (no_longer p q xs sub) (q x) (p x) (subst (λ (y : ℕ). q y ≡ false) (sym is) fails) (subst (λ (y : ℕ). p y ≡ true) (sym is) passes)
  where
    by_tests : length (filter q xs) ≤ length (filter p xs) → (t u : Bool) → t ≡ false → u ≡ true →
        length (cond t (x ∷ filter q xs) (filter q xs)) < length (cond u (x ∷ filter p xs) (filter p xs))
    by_tests rest false true e f = omega (arith, rest)
    by_tests rest true u e f = absurd (never (sym e))
    by_tests rest false false e f = absurd (never f)
shorter p q (x ∷ xs) b sub (inr there) passes fails = by_tests (shorter p q xs b sub there passes fails) (q x) (p x) refl refl
  where
    by_tests : length (filter q xs) < length (filter p xs) → (t u : Bool) → q x ≡ t → p x ≡ u →
        length (cond t (x ∷ filter q xs) (filter q xs)) < length (cond u (x ∷ filter p xs) (filter p xs))
    by_tests rest true true e f = omega (arith, rest)
    by_tests rest false true e f = omega (arith, rest)
    by_tests rest false false e f = rest
    by_tests rest true false e f = absurd (never (sym f ∙ sub x e))

-- ---- sessions

abbrev ended : List Entry → ℕ → ℕ → EndCause → Moment → List Entry
ended H k b why at = record { caller = k; change = change.Ended b why at } ∷ H

same_nat : (b : ℕ) → nat_eq b b ≡ true
same_nat b = grind arith

ended_is_not : (H : List Entry) (k b : ℕ) (why : EndCause) (at : Moment) → is_live (ended H k b why at) b ≡ false
ended_is_not H k b why at = by_test (last_told (λ before e. live_told b before e.change) H) (nat_eq b b) (same_nat b)
  where
    by_test : (o : Option Bool) (t : Bool) → t ≡ true → unwrap_or (or_else (when t false) o) false ≡ false
    by_test o true e = refl
    by_test o false e = absurd (never e)

others_live : (H : List Entry) (k b : ℕ) (why : EndCause) (at : Moment) (x : ℕ) → is_live (ended H k b why at) x ≡ true → is_live H x ≡ true
others_live H k b why at x h = by_test (last_told (λ before e. live_told x before e.change) H) (nat_eq b x) h
  where
    by_test : (o : Option Bool) (t : Bool) → unwrap_or (or_else (when t false) o) false ≡ true → unwrap_or o false ≡ true
    by_test o true e = absurd (never e)
    by_test o false e = e

fewer_live : (H : List Entry) (k b : ℕ) (why : EndCause) (at : Moment) → Has b (live_bindings H) → live_count (ended H k b why at) < live_count H
fewer_live H k b why at h =
    let x = filter_has (is_live H) (bindings H) b h in
    shorter (is_live H) (is_live (ended H k b why at)) (bindings H) b (λ y e. others_live H k b why at y e) x.0 x.1 (ended_is_not H k b why at)

-- one look that found one
by_least : (c : HubConfig) (H : List Entry) (m : ℕ) (o : Option ℕ) → least nat_lt (idle_bindings c H m) ≡ o → (k : Closing) (later : List Entry) →
    Some (Reply.expired k) ≡ Some (expired_by H 0 m o).reply → later ≡ after H 0 (expired_by H 0 m o).changes → live_count later < live_count H
by_least c H m None is k later e l = absurd cc
by_least c H m (Some b) is k later e l = by_bound (bound_of H b) e l
  where
    has : Has b (live_bindings H)
    has = (filter_has (λ x. nat_le c.idle_ms (m - active H x)) (live_bindings H) b (least_has (idle_bindings c H m) b is)).0

    by_bound : (o : Option Running) → Some (Reply.expired k) ≡ Some (closes H 0 (change.Ended b cause.Idle (moment m)) o Reply.expired).reply →
        later ≡ after H 0 (closes H 0 (change.Ended b cause.Idle (moment m)) o Reply.expired).changes → live_count later < live_count H
    by_bound None f g = absurd cc
    by_bound (Some r) f g = subst (λ (z : List Entry). live_count z < live_count H) (sym g) (fewer_live H 0 b cause.Idle (moment m) has)

pub expire_lowers : (c : HubConfig) (H : List Entry) (at : ℕ) (k : Closing) (later : List Entry) → Answers c H 0 Call.expire at (Some (Reply.expired k)) later →
    live_count later < live_count H
unfolding hub
expire_lowers c H at k later (inl x) =
    by_least c H (max at (clock H)) (least nat_lt (idle_bindings c H (max at (clock H)))) refl k later x.replies x.goes_on
expire_lowers c H at k later (inr x) = absurd (none_some x.silent)
  where
    none_some : Some (Reply.expired k) ≡ None → ⊥
    none_some e = cc

-- a slot that is freed ends no session and starts none
pub freed_keeps : (c : HubConfig) (H : List Entry) (at : ℕ) (k : Closing) (later : List Entry) → Answers c H 0 (Call.freed k) at (Some Reply.is_freed) later →
    live_count later ≤ live_count H
unfolding hub
freed_keeps c H at k later (inl x) = subst (λ (z : List Entry). live_count z ≤ live_count H) (sym x.goes_on) (same (live_count H))
  where
    same : (n : ℕ) → n ≤ n
    same n = omega arith
freed_keeps c H at k later (inr x) = absurd (none_some x.silent)
  where
    none_some : Some Reply.is_freed ≡ None → ⊥
    none_some e = cc
