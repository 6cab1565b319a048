-- What some bytes tell of the head at their front.
use Rattle.std.proofs.Common.{◌≡◌, ℕ, ◌+◌, ◌≤◌, false, nat_lt, List, ◌++◌, take, drop, sym, ap, ◌∙◌, arith, append_assoc}
use Rattle.std.proofs.Math.Seq.{take-add}
use Rattle.httparse.specs.Grammar.{RequestHead}
use Rattle.http_frames.specs.declared.frames.FrameLimits.{FrameLimits}
use Rattle.http_frames.specs.Frames.{IsAccepted, IsWhole, whole_sized, whole_chunked}

-- the head of a whole request is accepted
pub whole_accepted : (limits : FrameLimits) (bytes : List ℕ) (h : RequestHead) (parts : List (List ℕ)) (behind : List ℕ) → IsWhole limits bytes h parts behind →
    IsAccepted limits bytes h
whole_accepted limits bytes h parts behind (whole_sized rest n has framing fits parts_are behind_is) = (rest, has, λ why is. let e = sym framing ∙ is in cc)
whole_accepted limits bytes h parts behind (whole_chunked rest cs last has framing chunks fits end parts_are) = (rest, has, λ why is. let e = sym framing ∙ is in cc)

pub not_below : (at n : ℕ) → nat_lt at n ≡ false → at ≤ n → at ≡ n
not_below at n e h = grind (arith, e, h)

pub further : (before bytes : List ℕ) (at n : ℕ) → (before ++ take at bytes) ++ take n (drop at bytes) ≡ before ++ take (at + n) bytes
further before bytes at n = append_assoc before (take at bytes) (take n (drop at bytes)) ∙ ap (λ (t : List ℕ). before ++ t) (sym (take-add at n bytes))
