-- What a writer has taken of a piece.
use Rattle.std.proofs.Common.{ℕ, ◌+◌, List, [], ◌++◌, Option, Some, None, sym, ap, ◌∙◌, subst, append_assoc, append-nil, take, drop}
use Rattle.std.specs.Io.KnownBytes.{Appends}
use Rattle.std.proofs.Math.Seq.{take-add}

pub nothing_yet : (old : Option (List ℕ)) → Appends old old []
nothing_yet None = tt
nothing_yet (Some bytes) = sym (append-nil bytes)

then_too : (old mid new : Option (List ℕ)) (xs ys : List ℕ) → Appends old mid xs → Appends mid new ys → Appends old new (xs ++ ys)
then_too None mid new xs ys p q = tt
then_too (Some bytes) None new xs ys p q = absurd p
then_too (Some bytes) (Some more) None xs ys p q = absurd q
then_too (Some bytes) (Some more) (Some all) xs ys p q = q ∙ (ap (λ (l : List ℕ). l ++ ys) p ∙ append_assoc bytes xs ys)

-- so many bytes more
pub taken_more : (old mid new : Option (List ℕ)) (piece : List ℕ) (at count : ℕ) → Appends old mid (take at piece) → Appends mid new (take count (drop at piece))
    → Appends old new (take (at + count) piece)
taken_more old mid new piece at count p q = subst (Appends old new) (sym (take-add at count piece)) (then_too old mid new (take at piece) (take count (drop at piece)) p q)
