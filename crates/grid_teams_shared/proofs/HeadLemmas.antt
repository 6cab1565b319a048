-- What some bytes tell of the head at their front.
use Rattle.std.proofs.Common.{◌≡◌, ℕ, zero, suc, ◌+◌, ◌<◌, ◌≤◌, List, [], ◌∷◌, ◌++◌, length, take, drop, refl, sym, ap, ◌∙◌, subst, arith, length-append}
use Rattle.std.proofs.Math.Seq.{take-add}
use Rattle.httparse.specs.Grammar.{RequestHead}
use Rattle.http_frames.specs.declared.frames.FrameLimits.{FrameLimits}
use Rattle.http_frames.specs.declared.frames.TheConstants.{LIMITS}
use Rattle.http_frames.specs.Frames.{IsAccepted, IsWhole, open_chunked, open_head, open_sized, whole_sized, whole_chunked}
use Rattle.grid_outside.specs.declared.source.TheConstants.{PIECE_BYTES}
use Rattle.http_frames.specs.Feeding.{Fed}
use Rattle.grid_outside.specs.Told.{LinkView}
use Rattle.grid_teams_shared.specs.declared.ahead.Ahead.{Ahead}
use Rattle.grid_teams_shared.specs.Heads.{AwaitsHead, MOST, Reading}
use Rattle.grid_teams_shared.specs.Links.{Gave}
use Rattle.grid_teams_shared.proofs.LinkLemmas.{gave_none}

-- the head of a whole request is accepted
pub whole_accepted : (limits : FrameLimits) (bytes : List ℕ) (h : RequestHead) (parts : List (List ℕ)) (behind : List ℕ) → IsWhole limits bytes h parts behind →
    IsAccepted limits bytes h
whole_accepted limits bytes h parts behind (whole_sized rest n has framing fits parts_are behind_is) = (rest, has, λ why is. let e = sym framing ∙ is in cc)
whole_accepted limits bytes h parts behind (whole_chunked rest cs last has framing chunks fits end parts_are) = (rest, has, λ why is. let e = sym framing ∙ is in cc)

pub fed_further : (bytes : List ℕ) (at n : ℕ) → take at bytes ++ take n (drop at bytes) ≡ take (at + n) bytes
fed_further bytes at n = sym (take-add at n bytes)

pub take_all : (bytes : List ℕ) (n : ℕ) → length bytes ≤ n → take n bytes ≡ bytes
take_all [] zero le = refl
take_all [] (suc n) le = refl
take_all (x ∷ bytes) zero le = absurd (omega (arith, le))
take_all (x ∷ bytes) (suc n) le = ap (λ (xs : List ℕ). x ∷ xs) (take_all bytes n (omega (arith, le)))

-- where a head is awaited the bytes are fewer than a head may have
pub few_awaited : (bytes : List ℕ) → AwaitsHead LIMITS bytes → length bytes < LIMITS.head
few_awaited bytes ((waits, open_head begun short), never) = short
few_awaited bytes ((waits, open_sized h rest n has framing short), never) = absurd (never h (rest, has, λ why is. let e = sym framing ∙ is in cc))
few_awaited bytes ((waits, open_chunked h rest has framing chunks), never) = absurd (never h (rest, has, λ why is. let e = sym framing ∙ is in cc))

pub few_more : (bytes into : List ℕ) (n : ℕ) → length bytes < LIMITS.head → n ≤ PIECE_BYTES → length (bytes ++ take n into) ≤ MOST
few_more bytes into n few small =
    let e = length-append bytes (take n into) in
    let k = length_at_most into n in
    omega (arith, e, k, few, small)
  where
    length_at_most : (xs : List ℕ) (m : ℕ) → length (take m xs) ≤ m
    length_at_most xs zero = omega arith
    length_at_most [] (suc m) = omega arith
    length_at_most (x ∷ xs) (suc m) = let r = length_at_most xs m in omega (arith, r)

pub take_within : (n : ℕ) (xs ys : List ℕ) → n ≤ length xs → take n (xs ++ ys) ≡ take n xs
take_within zero xs ys le = refl
take_within (suc n) [] ys le = absurd (omega (arith, le))
take_within (suc n) (x ∷ xs) ys le = ap (λ (zs : List ℕ). x ∷ zs) (take_within n xs ys (omega (arith, le)))

-- nothing was read yet
pub reading_none : (v : LinkView) (ahead : Ahead) → ahead.fed ≡ 0 → Fed LIMITS ahead.reader [] → ahead.bytes.items ≡ [] → Reading v ahead v
reading_none v ahead e f none = record {
  within = omega (arith, e);
  fed = subst (λ (b : List ℕ). Fed LIMITS ahead.reader b) (sym (ap (λ (b : List ℕ). take ahead.fed b) none ∙ take_all [] ahead.fed (omega arith))) f;
  gave = subst (λ (b : List ℕ). Gave v b v) (sym none) (gave_none v);
  unended = refl;
  few = subst (λ (b : List ℕ). length b ≤ MOST) (sym none) (omega arith);
}
