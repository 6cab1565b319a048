-- Bytes that are handed out again are gained.
use Rattle.std.proofs.Common.{◌≡◌, ℕ, zero, suc, ◌-◌, Bool, true, false, List, [], ◌∷◌, ◌++◌, length, take, drop, Option, Some, None, refl, sym, ap, ◌∙◌, subst, arith, append_assoc, append-nil, length-append}
use Rattle.std.proofs.lemmas.Slice.Eq.{bytes_eq-Decides}
use Rattle.std.specs.Prelude.{Result, Ok, Err, IfOk}
use Rattle.grid_outside.specs.Told.{Gains}
use Rattle.again_link.specs.Again.{GivesOn, all_but, ends_with, told_if, without}

take_front : (front left : List ℕ) → take (length front) (front ++ left) ≡ front
take_front [] left = refl
take_front (x ∷ front) left = ap (λ (ys : List ℕ). x ∷ ys) (take_front front left)

front_of : (front left : List ℕ) → take (length (front ++ left) - length left) (front ++ left) ≡ front
front_of front left =
    let count : length (front ++ left) - length left ≡ length front = omega (arith, length-append front left) in
    ap (λ (k : ℕ). take k (front ++ left)) count ∙ take_front front left

parts : (n : ℕ) (left : List ℕ) → take n left ++ drop n left ≡ left
parts zero left = refl
parts (suc n) [] = refl
parts (suc n) (x ∷ left) = ap (λ (ys : List ℕ). x ∷ ys) (parts n left)

split_at : (all left : List ℕ) (n : ℕ) → all_but left all ++ left ≡ all → (all_but left all ++ take n left) ++ drop n left ≡ all
split_at all left n e = append_assoc (all_but left all) (take n left) (drop n left) ∙ ap (λ (xs : List ℕ). all_but left all ++ xs) (parts n left) ∙ e

all_but_rest : (all left : List ℕ) (n : ℕ) → all_but left all ++ left ≡ all → all_but (drop n left) all ≡ all_but left all ++ take n left
all_but_rest all left n e =
    ap (λ (xs : List ℕ). take (length xs - length (drop n left)) xs) (sym (split_at all left n e)) ∙ front_of (all_but left all ++ take n left) (drop n left)

told_so : (left all : List ℕ) → all_but left all ++ left ≡ all → without left (Some all) ≡ Some (all_but left all)
told_so left all e = ap (λ (b : Bool). told_if b (all_but left all)) ((bytes_eq-Decides (all_but left all ++ left) all).1 e)

pub again : (given : Option (List ℕ)) (left : List ℕ) (n : ℕ) → Gains (without left given) (without (drop n left) given) (take n left)
again None left n = tt
again (Some all) left n = by_test (ends_with left all) refl
  where
    by_test : (b : Bool) → ends_with left all ≡ b → Gains (told_if b (all_but left all)) (without (drop n left) (Some all)) (take n left)
    by_test false e = tt
    by_test true e =
        let h = (bytes_eq-Decides (all_but left all ++ left) all).0 e in
        let rest = all_but_rest all left n h in
        told_so (drop n left) all (ap (λ (xs : List ℕ). xs ++ drop n left) rest ∙ split_at all left n h) ∙ ap Some rest

all_but_none : (all : List ℕ) → all_but [] all ≡ all
all_but_none all =
    let count : length all - 0 ≡ length all = omega arith in
    ap (λ (k : ℕ). take k all) count ∙ (ap (λ (xs : List ℕ). take (length all) xs) (sym (append-nil all)) ∙ take_front all [])

-- nothing is left
pub without_none : (given : Option (List ℕ)) (left : List ℕ) → length left ≡ 0 → without left given ≡ given
without_none None left e = refl
without_none (Some all) [] e = told_so [] all (append-nil (all_but [] all) ∙ all_but_none all) ∙ ap Some (all_but_none all)
without_none (Some all) (x ∷ left) e = absurd (omega (arith, e))

pub gains_none : (old new : Option (List ℕ)) (left told : List ℕ) → length left ≡ 0 → Gains old new told → Gains (without left old) (without left new) told
gains_none old new left told e g =
    subst (λ (o : Option (List ℕ)). Gains o (without left new) told) (sym (without_none old left e)) (subst (λ (o : Option (List ℕ)). Gains old o told) (sym (without_none new left e)) g)

pub gives_same : (old new : Option (List ℕ)) → new ≡ old → GivesOn old new
gives_same None new e = ([], tt)
gives_same (Some all) new e = ([], e ∙ ap Some (sym (append-nil all)))

pub ok_gains : {E : Type 0} (r : Result ℕ E) (old new : Option (List ℕ)) (left into : List ℕ) → length left ≡ 0 → IfOk r (λ n. Gains old new (take n into)) →
    IfOk r (λ n. Gains (without left old) (without left new) (take n into))
ok_gains (Ok n) old new left into e g = gains_none old new left (take n into) e g
ok_gains (Err fault) old new left into e g = tt

pub untold : (told left : List ℕ) → without left (Some (told ++ left)) ≡ Some told
untold told left =
    told_so left (told ++ left) (ap (λ (xs : List ℕ). xs ++ left) (front_of told left)) ∙ ap Some (front_of told left)
