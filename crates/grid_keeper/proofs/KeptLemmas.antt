-- A map by numbers of which something holds at each number, when one is put in or taken out.
use Rattle.std.proofs.Common.{◌≡◌, ℕ, Bool, true, false, cond, refl, subst, sym, ◌∙◌, arith}
use Rattle.std.specs.Prelude.{None, Some}
use Rattle.std.specs.Ordering.{nat_cmp}
use Rattle.std.specs.BTreeMap.{BTreeMap, get, is_at, Updates, UpdatesBy, IsUnchanged}
use Rattle.std.proofs.lemmas.Grind.{common_steps}

-- it holds of all that the map keeps
abbrev pub Keeps : {T : Type 0} → (ℕ → T → Type 0) → BTreeMap ℕ T → Type 0
Keeps {T} P m = (r : ℕ) (t : T) → get nat_cmp m r ≡ Some t → P r t

pub taken-out : {T : Type 0} (P : ℕ → T → Type 0) (m n : BTreeMap ℕ T) (k : ℕ) → UpdatesBy nat_cmp (nat_cmp k) m n None → Keeps P m → Keeps P n
taken-out {T} P m n k updates keeps r t found = by_test (is_at (nat_cmp k) r) (sym (updates.0 r) ∙ found)
  where
    by_test : (v : Bool) → cond v None (get nat_cmp m r) ≡ Some t → P r t
    by_test true e = absurd (cc)
    by_test false e = keeps r t e

same-number : (k r : ℕ) → is_at (nat_cmp k) r ≡ true → k ≡ r
same-number k r e = grind (arith, common_steps)

pub put-in : {T : Type 0} (P : ℕ → T → Type 0) (m n : BTreeMap ℕ T) (k : ℕ) (v : T) → Updates nat_cmp m n k (Some v) → Keeps P m → P k v → Keeps P n
put-in {T} P m n k v updates keeps holds r t found = by_test (is_at (nat_cmp k) r) refl (sym (updates.0 r) ∙ found)
  where
    by_test : (b : Bool) → is_at (nat_cmp k) r ≡ b → cond b (Some v) (get nat_cmp m r) ≡ Some t → P r t
    by_test true here e =
        let same : v ≡ t = cc in
        subst (λ (q : ℕ). P q t) (same-number k r here) (subst (λ (u : T). P k u) same holds)
    by_test false here e = keeps r t e

pub taken-out-of : {T : Type 0} (P : ℕ → T → Type 0) (m n : BTreeMap ℕ T) (k : ℕ) → Updates nat_cmp m n k None → Keeps P m → Keeps P n
taken-out-of {T} P m n k updates keeps r t found = by_test (is_at (nat_cmp k) r) (sym (updates.0 r) ∙ found)
  where
    by_test : (v : Bool) → cond v None (get nat_cmp m r) ≡ Some t → P r t
    by_test true e = absurd (cc)
    by_test false e = keeps r t e

pub left-alone : {T : Type 0} (P : ℕ → T → Type 0) (m n : BTreeMap ℕ T) → IsUnchanged m n → Keeps P m → Keeps P n
left-alone {T} P m n same keeps r t found =
    let e : get nat_cmp m r ≡ get nat_cmp n r = rw same refl in
    keeps r t (e ∙ found)
