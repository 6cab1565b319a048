-- What is accepted behind a fault was accepted before it.
use Rattle.std.proofs.Common.{◌≡◌, ◌≢◌, ℕ, List, ◌++◌, sym, ap, ◌∙◌, subst}
use Rattle.std.proofs.lemmas.List.{take-append-le}
use Rattle.httparse.specs.Grammar.{RequestHead}
use Rattle.http_frames.specs.declared.FrameFault.{FrameFault}
use Rattle.http_frames.specs.declared.fields.Framing.{Framing}
use Rattle.http_frames.specs.declared.fields.Framing.TheVariants.{Chunked, Faulty}
use Rattle.http_frames.specs.declared.frames.FrameLimits.{FrameLimits}
use Rattle.http_frames.specs.Heads.{HasNoHead, IsBadHead}
use Rattle.http_frames.specs.Frames.{HasHead, IsAccepted, IsRefused, framing_of, bad_head, head_too_long, bad_framing, body_too_long, bad_chunk}
use Rattle.http_frames.proofs.AnswerLemmas.{head_not_bad, head_not_long}
use Rattle.http_frames.proofs.ExpectLemmas.{accepted_head}
use Rattle.http_frames.proofs.MoreLemmas.{has_head_more, take_grows, bad_head_more}

chunks_sound : (f : Framing) → f ≡ Chunked → (why : FrameFault) → f ≢ Faulty why
chunks_sound f e why is = let same : Chunked ≡ Faulty why = sym e ∙ is in cc

-- a head whose body is in chunks, and whatever head is accepted with more bytes behind
in_chunks : (limits : FrameLimits) (buf more : List ℕ) (k h : RequestHead) (rest : List ℕ) → HasHead limits buf k rest → framing_of limits k ≡ Chunked
    → IsAccepted limits (buf ++ more) h → IsAccepted limits buf h
in_chunks limits buf more k h rest has framing x =
    let same = accepted_head limits (buf ++ more) k h (rest ++ more) (has_head_more limits buf more k rest has) x in
    subst (λ (j : RequestHead). IsAccepted limits buf j) same (rest, has, chunks_sound (framing_of limits k) framing)

pub accepted_before : (limits : FrameLimits) (buf more : List ℕ) (why : FrameFault) (h : RequestHead) → IsRefused limits buf why
    → IsAccepted limits (buf ++ more) h → IsAccepted limits buf h
accepted_before limits buf more why h (bad_head b) x =
    absurd (head_not_bad limits (buf ++ more) h x.0 x.1 (take_grows IsBadHead limits.head buf more (λ m. bad_head_more buf m) b))
accepted_before limits buf more why h (head_too_long o le) x =
    absurd (head_not_long limits (buf ++ more) h x.0 x.1 (subst HasNoHead (sym (take-append-le limits.head buf more le)) o.0))
accepted_before limits buf more why h (bad_framing k rest why' has framing) x =
    let same = accepted_head limits (buf ++ more) k h (rest ++ more) (has_head_more limits buf more k rest has) x in
    absurd (x.2 why (ap (framing_of limits) (sym same) ∙ framing))
accepted_before limits buf more why h (body_too_long k rest has framing y) x = in_chunks limits buf more k h rest has framing x
accepted_before limits buf more why h (bad_chunk k rest has framing y) x = in_chunks limits buf more k h rest has framing x
