-- That bytes are blocks in one way.
use Rattle.std.proofs.Common.{◌≡◌, inl, inr, ℕ, ◌+◌, ◌<◌, ◌≤◌, ◌^◌, List, [], ◌∷◌, ◌++◌, length, refl, sym, ap, ap₂, subst, ◌∙◌, arith, append_assoc, append-nil}
use Rattle.std.proofs.lemmas.List.{length-append}
use Rattle.std.proofs.lemmas.Nat.{from_be_bytes-to_be_bytes_4}
use Rattle.std.specs.Int.{from_be_bytes, w32}
use Rattle.block_frames.specs.Blocks.{in_block, in_length}
use Rattle.block_frames.specs.Frames.{frame, framed, length_bytes}
use Rattle.block_frames.specs.OneWay.{AllWithin, IsRest, SameReading}

pub four : (n : ℕ) → length (length_bytes n) ≡ 4
four n = refl

pub same_length : (n m : ℕ) → n < 2 ^ 32 → m < 2 ^ 32 → length_bytes n ≡ length_bytes m → n ≡ m
same_length n m a b e = sym (from_be_bytes-to_be_bytes_4 n a) ∙ ap (λ (bs : List ℕ). from_be_bytes w32 bs) e ∙ from_be_bytes-to_be_bytes_4 m b

split : (a b xs ys : List ℕ) → length a ≡ length b → a ++ xs ≡ b ++ ys → (a ≡ b) × (xs ≡ ys)
split [] [] xs ys l e = (refl, e)
split [] (y ∷ b) xs ys l e = absurd (omega (arith, l))
split (x ∷ a) [] xs ys l e = absurd (omega (arith, l))
split (x ∷ a) (y ∷ b) xs ys l e =
    let first : x ≡ y = cc in
    let others : a ++ xs ≡ b ++ ys = cc in
    let r = split a b xs ys (omega (arith, l)) others in
    (ap₂ (λ (v : ℕ) (vs : List ℕ). v ∷ vs) first r.0, r.1)

-- a block in front
spelled : (c fs more : List ℕ) → (frame c ++ fs) ++ more ≡ length_bytes (length c) ++ (c ++ (fs ++ more))
spelled c fs more = append_assoc (frame c) fs more ∙ append_assoc (length_bytes (length c)) c (fs ++ more)

-- both begin with a length
sizes : (n m : ℕ) (xs ys : List ℕ) → n < 2 ^ 32 → m < 2 ^ 32 → length_bytes n ++ xs ≡ length_bytes m ++ ys → (n ≡ m) × (xs ≡ ys)
sizes n m xs ys a b e = let r = split (length_bytes n) (length_bytes m) xs ys (four n ∙ sym (four m)) e in (same_length n m a b r.0, r.1)

too_short : (rest c xs : List ℕ) → length rest < 4 → rest ≡ length_bytes (length c) ++ xs → ⊥
too_short rest c xs h e = let l = ap (λ (bs : List ℕ). length bs) e ∙ length-append (length_bytes (length c)) xs in omega (arith, h, l, four (length c))

none_behind : (most : ℕ) (rest c xs : List ℕ) → most < 2 ^ 32 → length c ≤ most → IsRest most rest → rest ≡ length_bytes (length c) ++ (c ++ xs) → ⊥
none_behind most rest c xs m w (inl z) e = too_short rest c (c ++ xs) (subst (λ (r : List ℕ). length r < 4) (sym z) (omega arith)) e
none_behind most rest c xs m w (inr (inl (in_length some few))) e = too_short rest c (c ++ xs) few e
none_behind most rest c xs m w (inr (inl (in_block size part most_size few is))) e =
    let r = sizes (length c) size (c ++ xs) part (omega (arith, w, m)) (omega (arith, most_size, m)) (sym e ∙ is) in
    let l = sym (length-append c xs) ∙ ap (λ (bs : List ℕ). length bs) r.1 in
    omega (arith, l, few, r.0)
none_behind most rest c xs m w (inr (inr long)) e =
    let r = sizes (length c) long.size (c ++ xs) [] (omega (arith, w, m)) long.told (sym e ∙ long.rest_is ∙ sym (append-nil (length_bytes long.size))) in
    omega (arith, r.0, w, long.long)

pub one_way : (most : ℕ) (blocks others : List (List ℕ)) (rest more : List ℕ) → most < 2 ^ 32 → AllWithin most blocks → AllWithin most others →
    IsRest most rest → IsRest most more → framed blocks ++ rest ≡ framed others ++ more → SameReading blocks others rest more
one_way most [] [] rest more m a b p q e = record { same_blocks = refl; same_rest = e }
one_way most [] (c ∷ others) rest more m a b p q e =
    absurd (none_behind most rest c (framed others ++ more) m b.0 p (e ∙ spelled c (framed others) more))
one_way most (c ∷ blocks) [] rest more m a b p q e =
    absurd (none_behind most more c (framed blocks ++ rest) m a.0 q (sym e ∙ spelled c (framed blocks) rest))
one_way most (c ∷ blocks) (d ∷ others) rest more m a b p q e =
    let r = sizes (length c) (length d) (c ++ (framed blocks ++ rest)) (d ++ (framed others ++ more)) (omega (arith, a.0, m)) (omega (arith, b.0, m))
    (sym (spelled c (framed blocks) rest) ∙ e ∙ spelled d (framed others) more) in
    let s = split c d (framed blocks ++ rest) (framed others ++ more) r.0 r.1 in
    let behind = one_way most blocks others rest more m a.1 b.1 p q s.1 in
    record {
      same_blocks = ap₂ (λ (x : List ℕ) (xs : List (List ℕ)). x ∷ xs) s.0 behind.same_blocks;
      same_rest = behind.same_rest;
    }
