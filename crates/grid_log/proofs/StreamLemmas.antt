-- What is told gains piece by piece.
use Rattle.std.proofs.Common.{ℕ, ◌≤◌, List, ◌++◌, ◌∙◌, ap, subst, append_assoc, inl, inr, arith}
use Rattle.std.specs.Prelude.{Option, Some, None}
use Rattle.grid_outside.specs.Counts.{Rose}
use Rattle.grid_outside.specs.Told.{Gains, TookFront}

pub rose_later : (a b c : ℕ) → a ≤ b → Rose b c → Rose a c
rose_later a b c l (inl h) = inl (omega arith)
rose_later a b c l (inr h) = inr h

pub gains_more : {A : Type 0} (a b c : Option (List A)) (xs ys : List A) → Gains a b xs → Gains b c ys → Gains a c (xs ++ ys)
gains_more None b c xs ys p q = tt
gains_more (Some zs) b c xs ys p q = (subst (λ t. Gains t c ys) p q) ∙ ap Some (append_assoc zs xs ys)

-- a front was taken behind what was gained
pub front_behind : (a b c : Option (List ℕ)) (xs bytes : List ℕ) → Gains a b xs → TookFront b c bytes → TookFront a c (xs ++ bytes)
front_behind a b c xs bytes g t = record {
  front = xs ++ t.front;
  unwritten = t.unwritten;
  some = t.some;
  are = append_assoc xs t.front t.unwritten ∙ ap (λ (ys : List ℕ). xs ++ ys) t.are;
  gains = gains_more a b c xs t.front g t.gains;
}
