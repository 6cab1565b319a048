-- Lists that are taken from their end, and lists that go together place by place.
use Rattle.std.proofs.Common.{◌≡◌, ℕ, zero, suc, ◌+◌, ◌-◌, ◌^◌, ◌<◌, ◌≤◌, min, List, [], ◌∷◌, ◌++◌, length, map, All, refl, sym, ap, subst, ◌∙◌, append_assoc, append-nil, arith}
use Rattle.std.specs.Prelude.{get_or}
use Rattle.std.specs.List.{AllZip}
use Rattle.std.proofs.lemmas.List.Elements.{All-append, All-cons, All-nil}
use Rattle.std.proofs.Math.Nat.{le-min}
use mathlib.Core.List.{IsPrefix}
use Rattle.grid_types.specs.Lists.{total}
use Rattle.hub_workers.specs.Hands.{backwards}

pub prefix_self : {A : Type 0} (xs : List A) → IsPrefix xs xs
prefix_self xs = ([], append-nil xs)

pub prefix_trans : {A : Type 0} (xs ys zs : List A) → IsPrefix xs ys → IsPrefix ys zs → IsPrefix xs zs
prefix_trans xs ys zs p q = (p.0 ++ q.0, sym (append_assoc xs p.0 q.0) ∙ (ap (λ w. w ++ q.0) p.1 ∙ q.1))

module _ {X Y : Type 0} (f : X → Y) where
  -- what is last comes first
  pub backwards_last : (xs : List X) (x : X) (rest : List Y) → backwards f (xs ++ x ∷ []) rest ≡ f x ∷ backwards f xs rest
  backwards_last [] x rest = refl
  backwards_last (y ∷ xs) x rest = backwards_last xs x (f y ∷ rest)

  pub backwards_map : {Z : Type 0} (g : Y → Z) (xs : List X) (rest : List Y) → map g (backwards f xs rest) ≡ backwards (λ x. g (f x)) xs (map g rest)
  backwards_map g [] rest = refl
  backwards_map g (x ∷ xs) rest = backwards_map g xs (f x ∷ rest)

-- the last of what was taken goes back to the front of what stands behind the rest
pub taken_last : {Y : Type 0} (left : List Y) (y : Y) (behind : List Y) → left ++ y ∷ behind ≡ (left ++ y ∷ []) ++ behind
taken_last left y behind = sym (append_assoc left (y ∷ []) behind)

pub total_last : {X : Type 0} (f : X → ℕ) (xs : List X) (x : X) → total f (xs ++ x ∷ []) ≡ total f xs + f x
total_last f [] x = omega arith
total_last f (y ∷ xs) x = let rest = total_last f xs x in omega (arith, rest)

pub all_head : {X : Type 0} (P : X → Type 0) (x : X) (xs : List X) → All P (x ∷ xs) → P x
all_head P x xs all = all 0 x (omega arith)

pub all_tail : {X : Type 0} (P : X → Type 0) (x : X) (xs : List X) → All P (x ∷ xs) → All P xs
all_tail P x xs all = λ k d below. all (suc k) d (omega (arith, below))

-- what holds at each place of two lists of one length
pub zip_each : {X : Type 0} (R : X → X → Type 0) (xs ys : List X) → length ys ≡ length xs → ((i : ℕ) (d : X) → i < length xs → R (get_or xs i d) (get_or ys i d)) → AllZip R xs ys
zip_each R [] [] same each = tt
zip_each R [] (y ∷ ys) same each = absurd (omega (arith, same))
zip_each R (x ∷ xs) [] same each = absurd (omega (arith, same))
zip_each R (x ∷ xs) (y ∷ ys) same each = (each 0 x (omega arith), zip_each R xs ys (omega (arith, same)) (λ i d below. each (suc i) d (omega (arith, below))))

-- one more, up to the greatest value
pub one_more : (s start count a b : ℕ) → ((r : ℕ) → r ≤ 2 ^ 32 - 1 → r ≤ start + count → r ≤ a) → s ≤ 2 ^ 32 - 1 → s ≤ start + (count + 1) → s ≤ min (min (a + b) (2 ^ 32 - 1) + 1) (2 ^ 32 - 1)
one_more zero start count a b before most sum = omega arith
one_more (suc r) start count a b before most sum =
    let least = before r (omega (arith, most)) (omega (arith, sum)) in
    let inner : r ≤ min (a + b) (2 ^ 32 - 1) = le-min (omega (arith, least)) (omega (arith, most)) in
    le-min (omega (arith, inner)) (omega (arith, most))

-- one is taken from the end of the one list and put to the end of the other
pub taken_out : {X Y : Type 0} (f : X → Y) (ys ys' whole : List Y) (xs xs' : List X) (x : X) (y : Y) → ys ++ backwards f xs [] ≡ whole → ys ≡ ys' ++ y ∷ [] → xs' ≡ xs ++ x ∷ [] → f x ≡ y →
    ys' ++ backwards f xs' [] ≡ whole
taken_out f ys ys' whole xs xs' x y before shorter longer is =
    ap (λ zs. ys' ++ backwards f zs []) longer ∙ (ap (λ zs. ys' ++ zs) (backwards_last f xs x []) ∙ (ap (λ z. ys' ++ z ∷ backwards f xs []) is
    ∙ (taken_last ys' y (backwards f xs []) ∙ (ap (λ zs. zs ++ backwards f xs []) (sym shorter) ∙ before))))

pub given_back : {X Y : Type 0} (f : X → Y) (ys ys' whole : List Y) (xs xs' : List X) (x : X) (y : Y) → ys ++ backwards f xs [] ≡ whole → xs ≡ xs' ++ x ∷ [] → ys' ≡ ys ++ y ∷ [] → f x ≡ y →
    ys' ++ backwards f xs' [] ≡ whole
given_back f ys ys' whole xs xs' x y before shorter longer is =
    ap (λ zs. zs ++ backwards f xs' []) longer ∙ (sym (taken_last ys y (backwards f xs' [])) ∙ (ap (λ z. ys ++ z ∷ backwards f xs' []) (sym is)
    ∙ (ap (λ zs. ys ++ zs) (sym (backwards_last f xs' x [])) ∙ (ap (λ zs. ys ++ backwards f zs []) (sym shorter) ∙ before))))

pub all_front : {X : Type 0} (P : X → Type 0) (xs : List X) (x : X) → All P (xs ++ x ∷ []) → All P xs
all_front P [] x all = All-nil P
all_front P (y ∷ xs) x all = All-cons P y xs (all_head P y (xs ++ x ∷ []) all) (all_front P xs x (all_tail P y (xs ++ x ∷ []) all))

pub all_end : {X : Type 0} (P : X → Type 0) (xs : List X) (x : X) → All P (xs ++ x ∷ []) → P x
all_end P [] x all = all_head P x [] all
all_end P (y ∷ xs) x all = all_end P xs x (all_tail P y (xs ++ x ∷ []) all)

pub all_more : {X : Type 0} (P : X → Type 0) (xs xs' : List X) (x : X) → xs' ≡ xs ++ x ∷ [] → All P xs → P x → All P xs'
all_more P xs xs' x is all one = subst (λ zs. All P zs) (sym is) (All-append P xs (x ∷ []) all (All-cons P x [] one (All-nil P)))

-- at equal values the same holds
pub at_both : {X : Type 0} (R : X → X → Type 0) (a b x y : X) → R a b → a ≡ x → b ≡ y → R x y
at_both R a b x y holds p q = subst (λ z. R x z) q (subst (λ z. R z b) p holds)

-- once none is left, what is behind them is all
pub none_left : {X Y : Type 0} (f : X → Y) (ys whole : List Y) (xs : List X) → length xs ≡ 0 → ys ++ backwards f xs [] ≡ whole → ys ≡ whole
none_left f ys whole [] none e = sym (append-nil ys) ∙ e
none_left f ys whole (x ∷ xs) none e = absurd (grind arith)

pub none_more : {X : Type 0} (f : X → ℕ) (xs : List X) (a b : ℕ) → length xs ≡ 0 → a + total f xs ≡ b → a ≡ b
none_more f [] a b none e = omega (arith, e)
none_more f (x ∷ xs) a b none e = absurd (grind arith)
