-- Which tokens a table still has when one is put in or taken out.
use Rattle.std.proofs.Common.{◌≡◌, ℕ, ◌<◌, Bool, true, false, not, ◌&&◌, cond, refl, subst, sym, ◌∙◌, arith}
use Rattle.std.specs.Prelude.{Option, None, Some, IsSome, nat_eq}
use Rattle.std.specs.Ordering.{nat_cmp}
use Rattle.std.specs.BTreeMap.{BTreeMap, get, is_at, Updates, UpdatesBy, IsUnchanged}
use Rattle.std.proofs.lemmas.Grind.{common_steps}
use Rattle.grid_types.specs.declared.names.SlotId.{SlotId}
use Rattle.grid_types.specs.Slots.{slot_eq}
use Rattle.grid_keeper.specs.Holds.{place_of}
use Rattle.grid_keeper.proofs.AgainLemmas.{slot_there}
use Rattle.grid_keeper.proofs.ThereLemmas.{slot_same}

some_is : {T : Type 0} (found : Option T) (t : T) → found ≡ Some t → IsSome found
some_is found t e = rw e refl

-- what is put in is there
pub own_there : {T : Type 0} (m n : BTreeMap ℕ T) (k : ℕ) (v : T) → Updates nat_cmp m n k (Some v) → IsSome (get nat_cmp n k)
own_there {T} m n k v updates = some_is (get nat_cmp n k) v (updates.0 k ∙ by_test (is_at (nat_cmp k) k) (at_own k))
  where
    at_own : (q : ℕ) → is_at (nat_cmp q) q ≡ true
    at_own q = grind (arith, common_steps)

    by_test : (b : Bool) → b ≡ true → cond b (Some v) (get nat_cmp m k) ≡ Some v
    by_test true e = refl
    by_test false e = absurd (cc e)

-- what was there before still is
pub put_stays : {T : Type 0} (m n : BTreeMap ℕ T) (k : ℕ) (v : T) (r : ℕ) → Updates nat_cmp m n k (Some v) → IsSome (get nat_cmp m r) → IsSome (get nat_cmp n r)
put_stays {T} m n k v r updates there = by_test (is_at (nat_cmp k) r) (updates.0 r)
  where
    by_test : (b : Bool) → get nat_cmp n r ≡ cond b (Some v) (get nat_cmp m r) → IsSome (get nat_cmp n r)
    by_test true e = some_is (get nat_cmp n r) v e
    by_test false e = subst (λ (o : Option T). IsSome o) (sym e) there

pub same_stays : {T : Type 0} (m n : BTreeMap ℕ T) (r : ℕ) → IsUnchanged m n → IsSome (get nat_cmp m r) → IsSome (get nat_cmp n r)
same_stays {T} m n r same there =
    let e : get nat_cmp m r ≡ get nat_cmp n r = rw same refl in
    subst (λ (o : Option T). IsSome o) e there

same-number : (k r : ℕ) → is_at (nat_cmp k) r ≡ true → k ≡ r
same-number k r e = grind (arith, common_steps)

number_alike : (k r : ℕ) → k ≡ r → nat_eq k r ≡ true
number_alike k r e = grind arith

differs : (b : Bool) → b ≡ true → b ≡ false → ⊥
differs b x y = absurd (cc)

-- all but what is taken out
pub out_stays : {T : Type 0} (m n : BTreeMap ℕ T) (k r : ℕ) → UpdatesBy nat_cmp (nat_cmp k) m n None → nat_eq k r ≡ false → IsSome (get nat_cmp m r) → IsSome (get nat_cmp n r)
out_stays {T} m n k r updates apart there = by_test (is_at (nat_cmp k) r) refl (updates.0 r)
  where
    by_test : (b : Bool) → is_at (nat_cmp k) r ≡ b → get nat_cmp n r ≡ cond b None (get nat_cmp m r) → IsSome (get nat_cmp n r)
    by_test true here e = absurd (differs (nat_eq k r) (number_alike k r (same-number k r here)) apart)
    by_test false here e = subst (λ (o : Option T). IsSome o) (sym e) there

pub out_stays_of : {T : Type 0} (m n : BTreeMap ℕ T) (k r : ℕ) → Updates nat_cmp m n k None → nat_eq k r ≡ false → IsSome (get nat_cmp m r) → IsSome (get nat_cmp n r)
out_stays_of {T} m n k r updates apart there = by_test (is_at (nat_cmp k) r) refl (updates.0 r)
  where
    by_test : (b : Bool) → is_at (nat_cmp k) r ≡ b → get nat_cmp n r ≡ cond b None (get nat_cmp m r) → IsSome (get nat_cmp n r)
    by_test true here e = absurd (differs (nat_eq k r) (number_alike k r (same-number k r here)) apart)
    by_test false here e = subst (λ (o : Option T). IsSome o) (sym e) there

-- what is taken out is not there
pub gone_from : {T : Type 0} (m n : BTreeMap ℕ T) (k : ℕ) → Updates nat_cmp m n k None → get nat_cmp n k ≡ None
gone_from {T} m n k updates = updates.0 k ∙ by_test (is_at (nat_cmp k) k) (at_own k)
  where
    at_own : (q : ℕ) → is_at (nat_cmp q) q ≡ true
    at_own q = grind (arith, common_steps)

    by_test : (b : Bool) → b ≡ true → cond b None (get nat_cmp m k) ≡ None
    by_test true e = refl
    by_test false e = absurd (cc e)

pub not_both : (a b : Bool) → (not a && b) ≡ true → (a ≡ false) × (b ≡ true)
not_both true b e = absurd (cc e)
not_both false b e = (refl, e)

-- slots that differ have numbers that differ
pub places_apart : (s t : SlotId) → s.index < 65_536 → t.index < 65_536 → slot_eq s t ≡ false → nat_eq (place_of s) (place_of t) ≡ false
places_apart s t small few apart = by_test (nat_eq (place_of s) (place_of t)) refl
  where
    same_place : (p q : ℕ) → nat_eq p q ≡ true → p ≡ q
    same_place p q e = grind (arith, e)

    by_test : (b : Bool) → nat_eq (place_of s) (place_of t) ≡ b → b ≡ false
    by_test true e =
        let same : s ≡ t = slot_there s t small few (same_place (place_of s) (place_of t) e) in
        let alike : slot_eq s t ≡ true = subst (λ (u : SlotId). slot_eq s u ≡ true) same (slot_same s) in
        absurd (cc)
    by_test false e = refl
