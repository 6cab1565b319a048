-- What is told gains piece by piece.
use Rattle.std.proofs.Common.{◌≡◌, ℕ, ◌≤◌, List, [], ◌++◌, sym, ◌∙◌, ap, subst, append_assoc, append-nil, inl, inr, arith}
use Rattle.std.specs.Prelude.{Option, Some, None}
use Rattle.grid_outside.specs.Counts.{Rose}
use Rattle.grid_outside.specs.Told.{Gains}
use Rattle.journal_reader.specs.Feeds.{Grew, Reads}
use Rattle.journal_reader.specs.declared.feed.Feed.{Feed}

pub rose_later : (a b c : ℕ) → a ≤ b → Rose b c → Rose a c
rose_later a b c l (inl h) = inl (omega arith)
rose_later a b c l (inr h) = inr h

pub gains_more : {A : Type 0} (a b c : Option (List A)) (xs ys : List A) → Gains a b xs → Gains b c ys → Gains a c (xs ++ ys)
gains_more None b c xs ys p q = tt
gains_more (Some zs) b c xs ys p q = (subst (λ t. Gains t c ys) p q) ∙ ap Some (append_assoc zs xs ys)

pub gains_none : {A : Type 0} (a : Option (List A)) → Gains a a []
gains_none None = tt
gains_none (Some zs) = ap Some (sym (append-nil zs))

pub grew_none : (a b : Option (List ℕ)) → b ≡ a → Grew a b
grew_none a b same = subst (Grew a) (sym same) (record { bytes = []; gains = gains_none a })

pub grew_on : (a b c : Option (List ℕ)) → Grew a b → Grew b c → Grew a c
grew_on a b c p q = record { bytes = p.bytes ++ q.bytes; gains = gains_more a b c p.bytes q.bytes p.gains q.gains }

pub grew_read : (old new : Feed) (a b : Option (List ℕ)) → Reads old new a b → Grew a b
grew_read old new a b r = record { bytes = r.bytes; gains = r.gains }
