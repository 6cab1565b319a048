-- Whether a connection to a node stays open behind a reply.
use Rattle.std.proofs.Common.{◌≡◌, ℕ, List, length, take, drop, ap, ◌∙◌}
use Rattle.httparse.specs.declared.spans.HeaderSpan.{HeaderSpan}
use Rattle.httparse.specs.declared.spans.ResponseSpans.{ResponseSpans}
use Rattle.httparse.specs.Grammar.{ResponseHead, print_response, status_code}
use Rattle.httparse.proofs.GrammarLemmas.{response_unique}
use Rattle.http_frames.specs.declared.frames.FrameLimits.{FrameLimits}
use Rattle.http_frames.specs.declared.replies.ReplyHeadStep.TheVariants.{Whole, Open, Bad}
use Rattle.http_frames.specs.FieldSteps.{AreWithin, pairs_of}
use Rattle.http_frames.specs.Replies.{HasReplyHead}
use Rattle.http_frames.specs.ReplySteps.{IsReplyHeadStep}
use Rattle.http_frames.specs.Staying.{stays_behind, stays_open}
use Rattle.http_frames.proofs.ChunkLemmas.{in_front}
use Rattle.http_frames.proofs.ReplyStepLemmas.{reply_head_of}
use Rattle.http_frames.proofs.ReplyUniqueLemmas.{head_not_never, head_not_long}

-- the spans of a head's fields lie in the bytes that were read
pub fields_within : (limits : FrameLimits) (text : List ℕ) (headers : List HeaderSpan) (spans : ResponseSpans)
    → IsReplyHeadStep (take limits.head text) headers (Whole spans)
    → AreWithin (length (take limits.head text)) (take spans.headers headers)
fields_within limits text headers spans x = (reply_head_of limits text headers spans x).1.fields_in

-- a head at the front is the one that the spans are of
pub by_spans : (limits : FrameLimits) (text : List ℕ) (headers : List HeaderSpan) (spans : ResponseSpans)
    → IsReplyHeadStep (take limits.head text) headers (Whole spans)
    → (h : ResponseHead) (rest : List ℕ) → HasReplyHead limits text h rest
    → stays_behind limits spans.version spans.code (pairs_of (take limits.head text) (take spans.headers headers)) ≡ stays_open limits h
by_spans limits text headers spans x h rest y =
    let k = x.1.0 in
    let at = x.1.1 in
    let whole = in_front text (print_response k) limits.head spans.len at.reads.1 at.len in
    let same : k ≡ h = (response_unique text k h (drop spans.len text) rest (at.reads.0, whole.reads) y.0.0).0 in
    ap (λ (n : ℕ). stays_behind limits n spans.code (pairs_of (take limits.head text) (take spans.headers headers))) at.version
    ∙ ap (λ (n : ℕ). stays_behind limits k.minor n (pairs_of (take limits.head text) (take spans.headers headers))) at.code
    ∙ ap (λ (hs : List (List ℕ × List ℕ)). stays_behind limits k.minor (status_code k) hs) at.fields
    ∙ ap (stays_open limits) same

-- where the front is open or bad, no head stands there
pub none_open : (limits : FrameLimits) (text : List ℕ) (headers : List HeaderSpan) → IsReplyHeadStep (take limits.head text) headers Open
    → (h : ResponseHead) (rest : List ℕ) → HasReplyHead limits text h rest → ⊥
none_open limits text headers x h rest y = head_not_long limits text h rest y x.0

pub none_bad : (limits : FrameLimits) (text : List ℕ) (headers : List HeaderSpan) → IsReplyHeadStep (take limits.head text) headers Bad
    → (h : ResponseHead) (rest : List ℕ) → HasReplyHead limits text h rest → ⊥
none_bad limits text headers x h rest y = head_not_never limits text h rest y x

-- and where it is whole, one does
pub some_whole : (limits : FrameLimits) (text : List ℕ) (headers : List HeaderSpan) (spans : ResponseSpans)
    → IsReplyHeadStep (take limits.head text) headers (Whole spans)
    → ((h : ResponseHead) (rest : List ℕ) → ¬ (HasReplyHead limits text h rest)) → ⊥
some_whole limits text headers spans x none =
    let has = reply_head_of limits text headers spans x in
    none has.0 (drop spans.len text) has.2
