-- Going over the slices of an object's members.
use Rattle.std.proofs.Common.{◌≡◌, ℕ, zero, suc, ◌+◌, ◌<◌, ◌≤◌, List, [], ◌∷◌, length, map, drop, get_or, refl, sym, ap, subst, ◌∙◌, arith, add-one}
use Rattle.std.proofs.Math.Seq.{drop-nil}
use Rattle.json_spans.specs.Span.{pair_of}
use Rattle.json_spans.specs.declared.span.Span.{Span}
use Rattle.caps_merge.specs.Placed.{Member}
use Rattle.caps_merge.specs.Shown.{ShowsMember, ShowMembers}

-- the member that a pair of slices shows, and those behind it
pub record NextPair (x : Span × Span) (ms : List Member) (i : ℕ) : Type 0 where
  pub m : Member
  pub left : drop i ms ≡ m ∷ drop (i + 1) ms
  pub shown : ShowsMember (pair_of x) m

record NextSuc (x : Span × Span) (ms : List Member) (i : ℕ) : Type 0 where
  m : Member
  left : drop i ms ≡ m ∷ drop (suc i) ms
  shown : ShowsMember (pair_of x) m

next_suc : (xs : List (Span × Span)) (ms : List Member) (i : ℕ) (x : Span × Span) →
    ShowMembers (map pair_of xs) ms → i < length xs → x ≡ get_or xs i x → NextSuc x ms i
next_suc [] ms i x h lt is = absurd (omega arith)
next_suc (y ∷ xs) [] i x h lt is = absurd h
next_suc (y ∷ xs) (m ∷ ms) zero x h lt is =
    record { m = m; left = refl; shown = subst (λ (z : Span × Span). ShowsMember (pair_of z) m) (sym is) h.0 }
next_suc (y ∷ xs) (m ∷ ms) (suc i) x h lt is =
    let r = next_suc xs ms i x h.1 (omega arith) is in record { m = r.m; left = r.left; shown = r.shown }

pub next_pair : (xs : List (Span × Span)) (ms : List Member) (i : ℕ) (x : Span × Span) →
    ShowMembers (map pair_of xs) ms → i < length xs → x ≡ get_or xs i x → NextPair x ms i
next_pair xs ms i x h lt is =
    let r = next_suc xs ms i x h lt is in
    record { m = r.m; left = r.left ∙ ap (λ (n : ℕ). r.m ∷ drop n ms) (sym (add-one i)); shown = r.shown }

pub all_pairs : (xs : List (Span × Span)) (ms : List Member) (i : ℕ) → ShowMembers (map pair_of xs) ms → length xs ≤ i → drop i ms ≡ []
all_pairs [] [] i h le = drop-nil i
all_pairs [] (m ∷ ms) i h le = absurd h
all_pairs (x ∷ xs) [] i h le = absurd h
all_pairs (x ∷ xs) (m ∷ ms) zero h le = absurd (omega arith)
all_pairs (x ∷ xs) (m ∷ ms) (suc i) h le = all_pairs xs ms i h.1 (omega arith)
