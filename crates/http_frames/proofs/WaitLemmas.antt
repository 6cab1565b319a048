-- Accepted heads, and whether their clients wait.
use Rattle.std.proofs.Common.{◌≡◌, ◌≢◌, ℕ, ◌+◌, ◌<◌, Bool, true, false, List, [], ◌++◌, length, drop, refl, sym, ap, ◌∙◌, subst, arith, append-nil, length-append, take, inl, inr}
use Rattle.std.proofs.lemmas.Bool.{cases_lt}
use Rattle.std.proofs.lemmas.List.{take-append-le, take-append-drop, nil_from_length}
use Rattle.httparse.specs.Grammar.{RequestHead, print_request}
use Rattle.http_frames.specs.declared.FrameFault.{FrameFault}
use Rattle.http_frames.specs.declared.fields.Framing.{Framing}
use Rattle.http_frames.specs.declared.fields.Framing.TheVariants.{Sized, Chunked, Faulty}
use Rattle.http_frames.specs.declared.frames.FrameLimits.{FrameLimits}
use Rattle.http_frames.specs.declared.reader.Phase.{Phase}
use Rattle.http_frames.specs.declared.reader.Phase.TheVariants as phase
use Rattle.http_frames.specs.declared.reader.FrameReader.{FrameReader}
use Rattle.http_frames.specs.Heads.{ReadsHead, HasNoHead, IsBadHead}
use Rattle.http_frames.specs.Frames.{HasHead, IsAccepted, IsAwaited, open_head, IsRefused, IsWhole, framing_of, expects, bad_head, head_too_long, bad_framing, body_too_long, bad_chunk, whole_sized, whole_chunked}
use Rattle.http_frames.specs.Feeding.{StandsIn, IsWaiting, awaits_in, waits_in}
use Rattle.http_frames.proofs.AnswerLemmas.{awaited, refused, answer_unique, head_not_bad, head_not_long}
use Rattle.http_frames.proofs.ExpectLemmas.{accepted_head}
use Rattle.http_frames.proofs.FeedLemmas.{open_head_nil}
use Rattle.http_frames.proofs.MoreLemmas.{has_head_more, take_grows, bad_head_more}
use Rattle.http_frames.proofs.FrameLemmas.{chunks_cut, end_cut}

-- ---- accepted heads

pub accepted_more : (limits : FrameLimits) (buf more : List ℕ) (h : RequestHead) → IsAccepted limits buf h → IsAccepted limits (buf ++ more) h
accepted_more limits buf more h (rest, has, sound) = (rest ++ more, has_head_more limits buf more h rest has, sound)

pub one_accepted : (limits : FrameLimits) (buf : List ℕ) (h k : RequestHead) → IsAccepted limits buf h → IsAccepted limits buf k → h ≡ k
one_accepted limits buf h k (rest, has, sound) x = accepted_head limits buf h k rest has x

pub none_accepted : (limits : FrameLimits) (h : RequestHead) → IsAccepted limits [] h → ⊥
none_accepted limits h (rest, has, sound) = open_head_nil.0 h rest has.0

pub none_refused : (limits : FrameLimits) (buf : List ℕ) (why : FrameFault) → 0 < limits.head → IsRefused limits buf why → buf ≡ [] → ⊥
none_refused limits buf why some x e =
    let nothing : IsAwaited limits [] false = open_head open_head_nil some in
    let same : awaited false ≡ refused why = answer_unique limits [] (awaited false) (refused why) nothing (subst (λ (b : List ℕ). IsRefused limits b why) e x) in
    cc

-- a head that calls for a body with a length, or for chunks, is accepted
sound_framing : (f g : Framing) → f ≡ g → ((why : FrameFault) → g ≢ Faulty why) → (why : FrameFault) → f ≢ Faulty why
sound_framing f g e other why is = other why (sym e ∙ is)

sized_sound : (n : ℕ) (why : FrameFault) → Sized n ≢ Faulty why
sized_sound n why e = cc

chunked_sound : (why : FrameFault) → Chunked ≢ Faulty why
chunked_sound why e = cc

-- ---- whether a client waits

behind_head : (limits : FrameLimits) (bytes more : List ℕ) (h : RequestHead) (rest : List ℕ) (waits : Bool) → HasHead limits bytes h rest
    → ((why : FrameFault) → framing_of limits h ≢ Faulty why) → waits ≡ expects limits h → IsWaiting limits (bytes ++ more) waits
behind_head limits bytes more h rest waits has sound is =
    let here : IsAccepted limits (bytes ++ more) h = accepted_more limits bytes more h (rest, has, sound) in record {
      accepted = λ k x. is ∙ ap (λ (j : RequestHead). expects limits j) (one_accepted limits (bytes ++ more) h k here x);
      only = λ so. (h, here, sym is ∙ so);
    }

no_head : (limits : FrameLimits) (bytes : List ℕ) → ((h : RequestHead) → ¬ (IsAccepted limits bytes h)) → IsWaiting limits bytes false
no_head limits bytes none = record {
  accepted = λ h x. absurd (none h x);
  only = λ so. absurd (no so);
}
  where
    no : false ≡ true → ⊥
    no e = cc

-- where a head is refused, none is accepted, whatever bytes follow
refused_head : (limits : FrameLimits) (bytes more : List ℕ) (why : FrameFault) → IsRefused limits bytes why
    → ((h : RequestHead) → ¬ (IsAccepted limits bytes h)) → (h : RequestHead) → ¬ (IsAccepted limits (bytes ++ more) h)
refused_head limits bytes more why (bad_head b) none h x =
    head_not_bad limits (bytes ++ more) h x.0 x.1 (take_grows IsBadHead limits.head bytes more (λ m. bad_head_more bytes m) b)
refused_head limits bytes more why (head_too_long o le) none h x =
    head_not_long limits (bytes ++ more) h x.0 x.1 (subst HasNoHead (sym (take-append-le limits.head bytes more le)) o.0)
refused_head limits bytes more why (bad_framing k rest why' has framing) none h x =
    let same = accepted_head limits (bytes ++ more) k h (rest ++ more) (has_head_more limits bytes more k rest has) x in
    x.2 why (ap (framing_of limits) (sym same) ∙ framing)
refused_head limits bytes more why (body_too_long k rest has framing y) none h x =
    none k (rest, has, sound_framing (framing_of limits k) Chunked framing chunked_sound)
refused_head limits bytes more why (bad_chunk k rest has framing y) none h x =
    none k (rest, has, sound_framing (framing_of limits k) Chunked framing chunked_sound)

pub waiting : (p : Phase) (limits : FrameLimits) (r : FrameReader) (bytes more : List ℕ) → StandsIn p limits r bytes
    → (awaits_in p ≡ true → more ≡ []) → IsWaiting limits (bytes ++ more) (waits_in p r.waits)
waiting phase.Head limits r bytes more x all =
    no_head limits (bytes ++ more) (λ h y.
    x.begun.0 h y.0 (subst (λ (t : List ℕ). ReadsHead t h y.0) (ap (λ (m : List ℕ). bytes ++ m) (all refl) ∙ append-nil bytes) y.1.0))
waiting (phase.Sized left) limits r bytes more (h, rest, at, framing, some, kept, line) all =
    behind_head limits bytes more h rest r.waits at.has (sound_framing (framing_of limits h) (Sized (length rest + left)) framing (sized_sound (length rest + left))) at.waits
waiting phase.Line limits r bytes more (h, rest, at, framing, cs, behind, reads, fits, so) all =
    behind_head limits bytes more h rest r.waits at.has (sound_framing (framing_of limits h) Chunked framing chunked_sound) at.waits
waiting (phase.Data left) limits r bytes more ((h, rest, at, framing, cs, behind, reads, fits, so), some) all =
    behind_head limits bytes more h rest r.waits at.has (sound_framing (framing_of limits h) Chunked framing chunked_sound) at.waits
waiting phase.DataEnd limits r bytes more (h, rest, at, framing, cs, behind, reads, fits, so) all =
    behind_head limits bytes more h rest r.waits at.has (sound_framing (framing_of limits h) Chunked framing chunked_sound) at.waits
waiting phase.Return limits r bytes more (h, rest, at, framing, cs, behind, reads, fits, so) all =
    behind_head limits bytes more h rest r.waits at.has (sound_framing (framing_of limits h) Chunked framing chunked_sound) at.waits
waiting phase.Trailers limits r bytes more (h, rest, at, framing, cs, behind, reads, fits, so) all =
    behind_head limits bytes more h rest r.waits at.has (sound_framing (framing_of limits h) Chunked framing chunked_sound) at.waits
waiting phase.Whole limits r bytes more (h, parts, x, kept, is, data_is) all = by_whole x
  where
    by_whole : IsWhole limits bytes h parts [] → IsWaiting limits (bytes ++ more) r.waits
    by_whole (whole_sized rest n has framing fits parts_are behind_is) =
        behind_head limits bytes more h rest r.waits has (sound_framing (framing_of limits h) (Sized n) framing (sized_sound n)) is
    by_whole (whole_chunked rest cs last has framing chunks fits end parts_are) =
        behind_head limits bytes more h rest r.waits has (sound_framing (framing_of limits h) Chunked framing chunked_sound) is
waiting (phase.BadHead why) limits r bytes more (fault, none) all =
    no_head limits (bytes ++ more) (refused_head limits bytes more why fault none)
waiting (phase.BadBody why) limits r bytes more (h, rest, has, framing, kept, is, fault) all =
    behind_head limits bytes more h rest r.waits has (sound_framing (framing_of limits h) Chunked framing chunked_sound) is

-- what is noted is told behind a head that was not refused
pub noted : (p : Phase) (w : Bool) → ¬ (p ≡ phase.Head) → ((why : FrameFault) → ¬ (p ≡ phase.BadHead why)) → waits_in p w ≡ w
noted phase.Head w a b = absurd (a refl)
noted (phase.Sized left) w a b = refl
noted phase.Line w a b = refl
noted (phase.Data left) w a b = refl
noted phase.DataEnd w a b = refl
noted phase.Return w a b = refl
noted phase.Trailers w a b = refl
noted phase.Whole w a b = refl
noted (phase.BadHead why) w a b = absurd (b why refl)
noted (phase.BadBody why) w a b = refl

-- ---- a whole request takes some bytes

head_some : (h : RequestHead) (text rest : List ℕ) → ReadsHead text h rest → 0 < length (print_request h)
head_some h text rest x =
    elim (cases_lt 0 (length (print_request h))) [
      | inl some ↦ some
      | inr none ↦
          let empty : print_request h ≡ [] = nil_from_length (print_request h) (omega (arith, none)) in
          absurd (open_head_nil.0 h [] ((x.0.0, sym empty ∙ sym (append-nil (print_request h))), x.1))
    ]

pub whole_some : (limits : FrameLimits) (buf : List ℕ) (h : RequestHead) (parts : List (List ℕ)) (behind : List ℕ)
    → IsWhole limits buf h parts behind → length behind < length buf
whole_some limits buf h parts behind (whole_sized rest n has framing fits parts_are behind_is) =
    omega (
      arith,
      head_some h buf rest has.0,
      ap length has.0.0.1,
      length-append (print_request h) rest,
      ap length behind_is,
      length-append (take n rest) (drop n rest),
      ap length (take-append-drop n rest),
    )
whole_some limits buf h parts behind (whole_chunked rest cs last has framing chunks fits end parts_are) =
    let a = chunks_cut cs rest last chunks in
    let b = end_cut last behind end in
    omega (
      arith,
      head_some h buf rest has.0,
      ap length has.0.0.1,
      length-append (print_request h) rest,
      ap length a.1,
      length-append a.0 last,
      ap length b.1,
      length-append b.0 behind,
    )
