-- What is told gains piece by piece, and how counts rise.
use Rattle.std.proofs.Common.{◌≡◌, ℕ, ◌≤◌, inl, inr, List, [], ◌∷◌, ◌++◌, refl, sym, ◌∙◌, ap, subst, append_assoc, append-nil, arith}
use Rattle.std.specs.Prelude.{Option, None, Some}
use Rattle.grid_outside.specs.Counts.{Rose}
use Rattle.grid_outside.specs.Told.{Gains}

pub gains_none : {A : Type 0} (told : Option (List A)) → Gains told told []
gains_none None = tt
gains_none (Some xs) = ap Some (sym (append-nil xs))

pub gains_more : {A : Type 0} (a b c : Option (List A)) (xs ys : List A) → Gains a b xs → Gains b c ys → Gains a c (xs ++ ys)
gains_more None b c xs ys p q = tt
gains_more (Some zs) b c xs ys p q = (subst (λ t. Gains t c ys) p q) ∙ ap Some (append_assoc zs xs ys)

-- what is nothing with more behind it is nothing
pub none_before : {A : Type 0} (xs ys : List A) → xs ++ ys ≡ [] → xs ≡ []
none_before [] ys e = refl
none_before (x ∷ xs) ys e = absurd cc

-- a count that rose later rose since
pub rose_later : (a b c : ℕ) → a ≤ b → Rose b c → Rose a c
rose_later a b c le (inl lt) = inl (omega (arith, le, lt))
rose_later a b c le (inr top) = inr top

-- a count that rose has risen ever after
pub rose_on : (a b c : ℕ) → Rose a b → b ≤ c → Rose a c
rose_on a b c (inl lt) le = inl (omega (arith, le, lt))
rose_on a b c (inr top) le = inr (omega (arith, le, top))
