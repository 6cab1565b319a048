-- Requests that were answered, and the bytes behind them.
use Rattle.std.proofs.Common.{◌≡◌, ℕ, ◌+◌, ◌-◌, ◌<◌, ◌≤◌, true, false, List, [], ◌∷◌, ◌++◌, length, refl, sym, ap, subst, arith, inl, inr}
use Rattle.httparse.specs.Grammar.{RequestHead}
use Rattle.http_frames.specs.declared.frames.TheConstants.{LIMITS}
use Rattle.http_frames.specs.declared.frames.FrameLimits.{FrameLimits}
use Rattle.http_frames.specs.Frames.{Request, End, asked, IsWhole, IsEnd, FramesFrom, closes}
use Rattle.hub_conn.specs.Conversation.{BeginsWith, ReadsTo}

-- the laws of the framing that are used
abbrev pub WholeStays : Type 0
WholeStays = (limits : FrameLimits) (buf more : List ℕ) (h : RequestHead) (parts : List (List ℕ)) (behind : List ℕ) →
    IsWhole limits buf h parts behind → IsWhole limits (buf ++ more) h parts (behind ++ more)

abbrev pub WholeTakes : Type 0
WholeTakes = (limits : FrameLimits) (buf : List ℕ) (h : RequestHead) (parts : List (List ℕ)) (behind : List ℕ) →
    IsWhole limits buf h parts behind → length behind < length buf

pub reads_begins : (bytes : List ℕ) (requests : List Request) (rest : List ℕ) → ReadsTo bytes requests rest → BeginsWith bytes requests rest
reads_begins bytes [] rest x = x
reads_begins bytes (f ∷ requests) rest (behind, whole, kept_open, reads) = (behind, whole, inl kept_open, reads_begins behind requests rest reads)

pub reads_more : (bytes : List ℕ) (requests : List Request) (rest behind : List ℕ) (f : Request) → ReadsTo bytes requests rest →
    IsWhole LIMITS rest f.0 f.1 behind → closes f.0 ≡ false → ReadsTo bytes (requests ++ f ∷ []) behind
reads_more bytes [] rest behind f x whole kept_open =
    (behind, subst (λ (b : List ℕ). IsWhole LIMITS b f.0 f.1 behind) (sym x) whole, kept_open, refl)
reads_more bytes (g ∷ requests) rest behind f (next, first, kept, reads) whole kept_open =
    (next, first, kept, reads_more next requests rest behind f reads whole kept_open)

pub begins_more : (bytes : List ℕ) (requests : List Request) (rest behind : List ℕ) (f : Request) → ReadsTo bytes requests rest →
    IsWhole LIMITS rest f.0 f.1 behind → BeginsWith bytes (requests ++ f ∷ []) behind
begins_more bytes [] rest behind f x whole =
    (behind, subst (λ (b : List ℕ). IsWhole LIMITS b f.0 f.1 behind) (sym x) whole, inr refl, refl)
begins_more bytes (g ∷ requests) rest behind f (next, first, kept, reads) whole =
    (next, first, inl kept, begins_more next requests rest behind f reads whole)

-- more bytes come
pub reads_grow : WholeStays → (bytes : List ℕ) (requests : List Request) (rest more : List ℕ) → ReadsTo bytes requests rest →
    ReadsTo (bytes ++ more) requests (rest ++ more)
reads_grow stays bytes [] rest more x = ap (λ (b : List ℕ). b ++ more) x
reads_grow stays bytes (f ∷ requests) rest more (behind, whole, kept_open, reads) =
    (behind ++ more, stays LIMITS bytes more f.0 f.1 behind whole, kept_open, reads_grow stays behind requests rest more reads)

-- so many bytes are left
pub reads_within : WholeTakes → (bytes : List ℕ) (requests : List Request) (rest : List ℕ) → ReadsTo bytes requests rest → length rest ≤ length bytes
reads_within takes bytes [] rest x = omega (arith, ap length x)
reads_within takes bytes (f ∷ requests) rest (behind, whole, kept_open, reads) =
    omega (arith, takes LIMITS bytes f.0 f.1 behind whole, reads_within takes behind requests rest reads)

at_rest : (at b m r : ℕ) → m ≤ b → r ≤ m → (at + (b - m)) + (m - r) ≡ at + (b - r)
at_rest at b m r fits inside = omega arith

-- the requests, and then the end
pub frames_to : WholeTakes → (at : ℕ) (bytes : List ℕ) (requests : List Request) (rest : List ℕ) (end : End) → ReadsTo bytes requests rest →
    IsEnd LIMITS (at + (length bytes - length rest)) rest end → FramesFrom LIMITS at bytes requests end
frames_to takes at bytes [] rest end x is =
    subst (λ (b : List ℕ). IsEnd LIMITS at b end) (sym x)
    (subst (λ (n : ℕ). IsEnd LIMITS n rest end) (omega (arith, ap length x)) is)
frames_to takes at bytes (f ∷ requests) rest end (behind, whole, kept_open, reads) is = (
  behind,
  whole,
  inr (
    kept_open,
    frames_to takes (at + (length bytes - length behind)) behind requests rest end reads
        (subst (λ (n : ℕ). IsEnd LIMITS n rest end)
        (sym (at_rest at (length bytes) (length behind) (length rest) (omega (arith, takes LIMITS bytes f.0 f.1 behind whole)) (reads_within takes behind requests rest reads)))
        is),
  ),
)

-- the requests, and then one that closes
pub frames_asked : (at : ℕ) (bytes : List ℕ) (requests : List Request) (rest behind : List ℕ) (f : Request) → ReadsTo bytes requests rest →
    IsWhole LIMITS rest f.0 f.1 behind → closes f.0 ≡ true → FramesFrom LIMITS at bytes (requests ++ f ∷ []) asked
frames_asked at bytes [] rest behind f x whole last =
    (behind, subst (λ (b : List ℕ). IsWhole LIMITS b f.0 f.1 behind) (sym x) whole, inl (last, refl, refl))
frames_asked at bytes (g ∷ requests) rest behind f (next, first, kept, reads) whole last =
    (next, first, inr (kept, frames_asked (at + (length bytes - length next)) next requests rest behind f reads whole last))
