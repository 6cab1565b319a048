-- That a reader stands for what it stood for where only the memory of its buffers changed.
use Rattle.std.proofs.Common.{◌≡◌, ℕ, List, [], ◌∷◌, length, sym, ap, ◌∙◌, subst, arith}
use Rattle.http_frames.specs.declared.frames.FrameLimits.{FrameLimits}
use Rattle.http_frames.specs.declared.reader.Phase.{Phase}
use Rattle.http_frames.specs.declared.reader.Phase.TheVariants as phase
use Rattle.http_frames.specs.declared.reader.FrameReader.{FrameReader}
use Rattle.http_frames.specs.declared.calm.Calm.{Calm}
use Rattle.httparse.specs.Grammar.{RequestHead}
use Rattle.http_frames.specs.Heads.{ReadsHead}
use Rattle.http_frames.specs.Chunks.{ReadsLine, IsOpenTrailers}
use Rattle.http_frames.specs.Calm.{StaysOpen, LineStays, TrailersStay}
use Rattle.http_frames.specs.Feeding.{StandsIn, IsBehindHead, IsInChunks, IsInLine, IsInData, IsInTrailers, Stays, awaits_in, whole_in}
use Rattle.http_frames.proofs.FeedLemmas.{Became}

-- the same bytes are held, and it is as far
abbrev Same : FrameReader → FrameReader → Phase → Type 0
Same old new p = Became old new p old.waits old.head.items old.body.items old.line.items

module _ (old new : FrameReader) (p : Phase) (now : Same old new p) where
  read_head : (h : RequestHead) → ReadsHead old.head.items h [] → ReadsHead new.head.items h []
  read_head h x = subst (λ (b : List ℕ). ReadsHead b h []) (sym now.head_is) x

  behind_head : (limits : FrameLimits) (bytes rest : List ℕ) (h : RequestHead) →
      IsBehindHead limits old bytes h rest → IsBehindHead limits new bytes h rest
  behind_head limits bytes rest h x = record {
    has = x.has;
    kept = read_head h x.kept;
    waits = now.waits_is ∙ x.waits;
  }

  in_chunks : (limits : FrameLimits) (bytes : List ℕ) (Then Next : List ℕ → List ℕ → Type 0) →
      ((content behind : List ℕ) → Then content behind → Next content behind) →
      IsInChunks limits old bytes Then → IsInChunks limits new bytes Next
  in_chunks limits bytes Then Next goes (h, rest, at, framing, cs, behind, reads, fits, so) =
      (h, rest, behind_head limits bytes rest h at, framing, cs, behind, reads, fits, goes _ behind so)

  in_data : (limits : FrameLimits) (left : ℕ) (end content behind : List ℕ) →
      IsInData limits old left end content behind → IsInData limits new left end content behind
  in_data limits left end content behind (l, part, reads, some, fits, size, body, line) =
      (l, part, reads, some, fits, size, now.body_is ∙ body, now.line_is ∙ line)

  in_line : new.calm ≡ old.calm → (content behind : List ℕ) → IsInLine old content behind → IsInLine new content behind
  in_line calm content behind (body, line, begun, stays) =
      (now.body_is ∙ body, now.line_is ∙ line, begun, subst (λ (c : Calm). LineStays c behind) (sym calm) stays)

  in_trailers : new.calm ≡ old.calm → (content behind : List ℕ) → IsInTrailers old content behind → IsInTrailers new content behind
  in_trailers calm content behind (l, reads, size, begun, body, stays) = (
    l,
    subst (λ (t : List ℕ). ReadsLine behind l t) (sym now.line_is) reads,
    size,
    subst IsOpenTrailers (sym now.line_is) begun,
    now.body_is ∙ body,
    subst (λ (c : Calm). TrailersStay c new.line.items) (sym calm) (subst (TrailersStay old.calm) (sym now.line_is) stays),
  )

stays_in : (p : Phase) (old new : FrameReader) (limits : FrameLimits) (bytes : List ℕ) → Same old new p → new.calm ≡ old.calm →
    StandsIn p limits old bytes → StandsIn p limits new bytes
stays_in phase.Head old new limits bytes now calm at = record {
  kept = now.head_is ∙ at.kept;
  none = (now.body_is ∙ at.none.0, now.line_is ∙ at.none.1, now.waits_is ∙ at.none.2);
  begun = at.begun;
  short = at.short;
  calm = subst (λ (c : Calm). StaysOpen c bytes) (sym calm) at.calm;
}
stays_in (phase.Sized left) old new limits bytes now calm (h, rest, at, framing, some, body, line) =
    (h, rest, behind_head old new (phase.Sized left) now limits bytes rest h at, framing, some, now.body_is ∙ body, now.line_is ∙ line)
stays_in phase.Line old new limits bytes now calm x =
    in_chunks old new phase.Line now limits bytes (IsInLine old) (IsInLine new) (in_line old new phase.Line now calm) x
stays_in (phase.Data left) old new limits bytes now calm x = (
  in_chunks old new (phase.Data left) now limits bytes (IsInData limits old left []) (IsInData limits new left [])
      (in_data old new (phase.Data left) now limits left []) x.0,
  x.1,
)
stays_in phase.DataEnd old new limits bytes now calm x =
    in_chunks old new phase.DataEnd now limits bytes (IsInData limits old 0 []) (IsInData limits new 0 [])
    (in_data old new phase.DataEnd now limits 0 []) x
stays_in phase.Return old new limits bytes now calm x =
    in_chunks old new phase.Return now limits bytes (IsInData limits old 0 (13 ∷ [])) (IsInData limits new 0 (13 ∷ []))
    (in_data old new phase.Return now limits 0 (13 ∷ [])) x
stays_in phase.Trailers old new limits bytes now calm x =
    in_chunks old new phase.Trailers now limits bytes (IsInTrailers old) (IsInTrailers new) (in_trailers old new phase.Trailers now calm) x
stays_in phase.Whole old new limits bytes now calm (h, parts, whole, kept, waits, body) =
    (h, parts, whole, read_head old new phase.Whole now h kept, now.waits_is ∙ waits, now.body_is ∙ body)
stays_in (phase.BadHead why) old new limits bytes now calm x = x
stays_in (phase.BadBody why) old new limits bytes now calm (h, rest, has, framing, kept, waits, refused) =
    (h, rest, has, framing, read_head old new (phase.BadBody why) now h kept, now.waits_is ∙ waits, refused)

pub stays_so : (old new : FrameReader) → Same old new old.phase → new.calm ≡ old.calm → Stays old new
stays_so old new now calm = record {
  fed = λ limits bytes fed. record {
    limits_are = now.limits_are ∙ fed.limits_are;
    narrow = fed.narrow;
    within = record {
      head = omega (arith, ap length now.head_is, fed.within.head);
      data_in = omega (arith, ap length now.body_is, fed.within.data_in);
      line = omega (arith, ap length now.line_is, fed.within.line);
    };
    stands = subst (λ (q : Phase). StandsIn q limits new bytes) (sym now.phase_is) (stays_in old.phase old new limits bytes now calm fed.stands);
  };
  awaits = ap awaits_in now.phase_is;
  whole = ap whole_in now.phase_is;
  kept = omega (arith, ap length now.head_is, ap length now.body_is, ap length now.line_is);
}
