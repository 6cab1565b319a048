-- The words before an option, and its value.
use Rattle.std.proofs.Common.{◌≡◌, ℕ, ◌+◌, ◌-◌, ◌<◌, ◌≤◌, Bool, true, false, List, [], ◌∷◌, ◌++◌, length, take, drop, get_or, codes, Option, None, Some, IfSome, not, refl, sym, ap, ap₂, subst, ◌∙◌, arith, append_assoc, append-nil}
use Rattle.std.proofs.lemmas.Fmt.{decimal_injective}
use Rattle.std.proofs.lemmas.List.{take_more, take_all, length-append}
use Rattle.play_words.specs.Options.{refusal_name, timeout_name, IsSplit, AreParts, truth, SaysRefusal, SaysTimeout}

-- ---- the last two words

pub record SameEnds (f g : List (List ℕ)) (a b c d : List ℕ) : Type 0 where
  pub front : f ≡ g
  pub name : a ≡ c
  pub value : b ≡ d

pub ends_one : (f g : List (List ℕ)) (a b c d : List ℕ) → f ++ a ∷ b ∷ [] ≡ g ++ c ∷ d ∷ [] → SameEnds f g a b c d
ends_one [] [] a b c d e = record { front = refl; name = cc; value = cc }
ends_one [] (y ∷ g) a b c d e = absurd (let l = ap length e in omega (arith, l, length-append (y ∷ g) (c ∷ d ∷ [])))
ends_one (x ∷ f) [] a b c d e = absurd (let l = ap length e in omega (arith, l, length-append (x ∷ f) (a ∷ b ∷ [])))
ends_one (x ∷ f) (y ∷ g) a b c d e =
    let head : x ≡ y = cc in
    let rest : f ++ a ∷ b ∷ [] ≡ g ++ c ∷ d ∷ [] = cc in
    let more = ends_one f g a b c d rest in
    record { front = ap₂ (λ (z : List ℕ) (zs : List (List ℕ)). z ∷ zs) head more.front; name = more.name; value = more.value }

pub last_two : (xs : List (List ℕ)) (a b : List ℕ) → 2 ≤ length xs → a ≡ get_or xs (length xs - 2) a → b ≡ get_or xs (length xs - 1) b
    → xs ≡ take (length xs - 2) xs ++ a ∷ b ∷ []
last_two xs a b least p q =
    let i = length xs - 2 in
    let next : length xs - 1 ≡ i + 1 = omega (arith, least) in
    let later : b ≡ get_or xs (i + 1) b = subst (λ (k : ℕ). b ≡ get_or xs k b) next q in
    sym (take_all (i + 1 + 1) xs (omega arith))
    ∙ one_more (i + 1) b (omega (arith, least)) later
    ∙ ap (λ (ys : List (List ℕ)). ys ++ b ∷ []) (one_more i a (omega (arith, least)) p)
    ∙ append_assoc (take i xs) (a ∷ []) (b ∷ [])
  where
    one_more : (i : ℕ) (x : List ℕ) → i < length xs → x ≡ get_or xs i x → take (i + 1) xs ≡ take i xs ++ x ∷ []
    one_more i x within is = take_more xs i x within ∙ ap (λ (y : List ℕ). take i xs ++ y ∷ []) (sym is)

-- ---- the first words

pub not_false : (b : Bool) → false ≡ not b → true ≡ b
not_false true e = refl
not_false false e = cc

pub first_word : (xs : List (List ℕ)) (a : List ℕ) → 1 ≤ length xs → a ≡ get_or xs 0 a → xs ≡ a ∷ drop 1 xs
first_word [] a least p = absurd (omega (arith, least))
first_word (x ∷ xs) a least p = ap (λ (y : List ℕ). y ∷ xs) (sym p)

pub first_two : (xs : List (List ℕ)) (a b : List ℕ) → 2 ≤ length xs → a ≡ get_or xs 0 a → b ≡ get_or xs 1 b → xs ≡ a ∷ b ∷ drop 2 xs
first_two [] a b least p q = absurd (omega (arith, least))
first_two (x ∷ []) a b least p q = absurd (omega (arith, least))
first_two (x ∷ y ∷ xs) a b least p q = ap₂ (λ (v w : List ℕ). v ∷ w ∷ xs) (sym p) (sym q)

pub two_words : (xs : List (List ℕ)) (a b : List ℕ) → 2 ≤ length xs → length xs < 3 → a ≡ get_or xs 0 a → b ≡ get_or xs 1 b → xs ≡ a ∷ b ∷ []
two_words [] a b least most p q = absurd (omega (arith, least))
two_words (x ∷ []) a b least most p q = absurd (omega (arith, least))
two_words (x ∷ y ∷ []) a b least most p q = cc
two_words (x ∷ y ∷ z ∷ xs) a b least most p q = absurd (omega (arith, most))

pub some_map : {A : Type 0} (o : Option A) (P Q : A → Type 0) → ((x : A) → P x → Q x) → IfSome o P → IfSome o Q
some_map None P Q f h = tt
some_map (Some x) P Q f h = f x h

-- ---- one split

pub record SameSplit (f g : List (List ℕ)) (p q : Option (List ℕ)) : Type 0 where
  pub front : f ≡ g
  pub value : p ≡ q

pub one_split : (name : List ℕ) (words f g : List (List ℕ)) (p q : Option (List ℕ)) → IsSplit name words f p → IsSplit name words g q → SameSplit f g p q
one_split name words f g None None s t = record { front = sym (append-nil f) ∙ sym s.spelled ∙ t.spelled ∙ append-nil g; value = refl }
one_split name words f g None (Some w) s t = absurd (s.whole refl g w (sym (append-nil f) ∙ sym s.spelled ∙ t.spelled))
one_split name words f g (Some v) None s t = absurd (t.whole refl f v (sym (append-nil g) ∙ sym t.spelled ∙ s.spelled))
one_split name words f g (Some v) (Some w) s t = let e = ends_one f g name v name w (sym s.spelled ∙ t.spelled) in record { front = e.front; value = ap Some e.value }

pub record SameWords (n m : List (List ℕ)) (r s t u : Option (List ℕ)) : Type 0 where
  pub nodes : n ≡ m
  pub refusal : r ≡ s
  pub timeout : t ≡ u

pub parts_one : (words n m : List (List ℕ)) (r s t u : Option (List ℕ)) → AreParts words n r t → AreParts words m s u → SameWords n m r s t u
parts_one words n m r s t u a b =
    let tails : codes "play" ∷ a.others ≡ codes "play" ∷ b.others = sym a.begins ∙ b.begins in
    let others : a.others ≡ b.others = ap (drop 1) tails in
    let late = one_split timeout_name b.others a.front b.front t u (subst (λ (ws : List (List ℕ)). IsSplit timeout_name ws a.front t) others a.timeout_split) b.timeout_split in
    let early = one_split refusal_name b.front n m r s (subst (λ (ws : List (List ℕ)). IsSplit refusal_name ws n r) late.front a.refusal_split) b.refusal_split in
    record { nodes = early.front; refusal = early.value; timeout = late.value }

-- ---- values

truth_one : (a b : Bool) → truth a ≡ truth b → a ≡ b
truth_one true true e = refl
truth_one true false e = let h = ap (λ (xs : List ℕ). get_or xs 0 0) e in absurd (omega (arith, h))
truth_one false true e = let h = ap (λ (xs : List ℕ). get_or xs 0 0) e in absurd (omega (arith, h))
truth_one false false e = refl

pub refusal_one : (o : Option (List ℕ)) (a b : Bool) → SaysRefusal o a → SaysRefusal o b → a ≡ b
refusal_one None a b h k = h ∙ sym k
refusal_one (Some word) a b h k = truth_one a b (sym h ∙ k)

pub timeout_one : (o : Option (List ℕ)) (a b : ℕ) → SaysTimeout o a → SaysTimeout o b → a ≡ b
timeout_one None a b h k = h ∙ sym k
timeout_one (Some word) a b h k =
    let same = decimal_injective h.0 k.0 (omega (arith, h.3)) (omega (arith, k.3)) (sym h.1 ∙ k.1) in
    omega (arith, h.4, k.4, same)
