-- A conversation that ended before its input did is that of longer bytes too.
use Rattle.std.proofs.Common.{◌≡◌, ◌≢◌, inl, inr, ℕ, ◌+◌, ◌-◌, ◌<◌, Bool, false, List, [], ◌∷◌, ◌++◌, length, refl, sym, ap, ◌∙◌, subst, arith, append-nil, length-append}
use Rattle.httparse.specs.Grammar.{RequestHead}
use Rattle.http_frames.specs.declared.FrameFault.{FrameFault}
use Rattle.http_frames.specs.declared.frames.FrameLimits.{FrameLimits}
use Rattle.http_frames.specs.declared.frames.TheConstants.{LIMITS}
use Rattle.http_frames.specs.Frames as on
use Rattle.http_frames.specs.Frames.{Request, FramesFrom, IsEnd, IsWhole, IsRefused, IsAccepted}
use Rattle.conn_script.specs.declared.wants.End.{End}
use Rattle.conn_script.specs.declared.wants.End.TheVariants as ends
use Rattle.conn_script.specs.declared.wants.TheConstants.{LIMIT}
use Rattle.hub_conn.specs.Conversation.{BeginsWith, EndsSo, IsOpen, Waits, closed, asked, refused, cut, closed_at_limit, cut_at_limit, hub_spent}
use Rattle.grid_play.specs.Talks.{TalksStand}
use Rattle.grid_play.proofs.BehindLemmas.{rest_one}

-- what the framing says of bytes with more behind them
pub record Stays : Type 0 where
  pub whole : (limits : FrameLimits) (buf more : List ℕ) (h : RequestHead) (parts : List (List ℕ)) (behind : List ℕ) →
      IsWhole limits buf h parts behind → IsWhole limits (buf ++ more) h parts (behind ++ more)
  pub refused_so : (limits : FrameLimits) (buf more : List ℕ) (why : FrameFault) → IsRefused limits buf why → IsRefused limits (buf ++ more) why
  pub accepted : (limits : FrameLimits) (buf more : List ℕ) (h : RequestHead) → IsAccepted limits buf h → IsAccepted limits (buf ++ more) h
  pub before : (limits : FrameLimits) (buf more : List ℕ) (why : FrameFault) (h : RequestHead) → IsRefused limits buf why →
      IsAccepted limits (buf ++ more) h → IsAccepted limits buf h

-- the bytes behind some requests that are refused
record RefusedAt (bytes : List ℕ) (requests : List Request) (why : FrameFault) : Type 0 where
  rest : List ℕ
  begins : BeginsWith bytes requests rest
  fault : IsRefused LIMITS rest why

refused_at : (at place : ℕ) (bytes : List ℕ) (requests : List Request) (why : FrameFault) → FramesFrom LIMITS at bytes requests (on.refused why place) →
    RefusedAt bytes requests why
refused_at at place bytes [] why x = record { rest = bytes; begins = refl; fault = x.2 }
refused_at at place bytes (f ∷ requests) why (behind, whole, inl x) = let e : on.refused why place ≡ on.asked = x.2 in cc
refused_at at place bytes (f ∷ requests) why (behind, whole, inr x) =
    let r = refused_at (at + (length bytes - length behind)) place behind requests why x.1 in
    record { rest = r.rest; begins = (behind, whole, inl x.0, r.begins); fault = r.fault }

some_more : (bytes more : List ℕ) → bytes ≢ [] → bytes ++ more ≢ []
some_more [] more some e = some refl
some_more (b ∷ bytes) more some e = cc

same_place : (at n m k : ℕ) → at + ((n + k) - (m + k)) ≡ at + (n - m)
same_place at n m k = omega arith

module _ (stays : Stays) (more : List ℕ) where
  begins_longer : (requests : List Request) (bytes rest : List ℕ) → BeginsWith bytes requests rest → BeginsWith (bytes ++ more) requests (rest ++ more)
  begins_longer [] bytes rest e = ap (λ (b : List ℕ). b ++ more) e
  begins_longer (f ∷ requests) bytes rest x =
      (x.0 ++ more, stays.whole LIMITS bytes more f.0 f.1 x.0 x.1, x.2, begins_longer requests x.0 rest x.3)

  frames_longer : (end : on.End) (at : ℕ) (bytes : List ℕ) (requests : List Request) →
      ((place : ℕ) (b : List ℕ) → IsEnd LIMITS place b end → IsEnd LIMITS place (b ++ more) end) →
      FramesFrom LIMITS at bytes requests end → FramesFrom LIMITS at (bytes ++ more) requests end
  frames_longer end at bytes [] longer x = longer at bytes x
  frames_longer end at bytes (f ∷ requests) longer (behind, whole, inl x) = (behind ++ more, stays.whole LIMITS bytes more f.0 f.1 behind whole, inl x)
  frames_longer end at bytes (f ∷ requests) longer (behind, whole, inr x) =
      let same : at + (length (bytes ++ more) - length (behind ++ more)) ≡ at + (length bytes - length behind) =
      (λ i. at + ((length-append bytes more i) - (length-append behind more i))) ∙ same_place at (length bytes) (length behind) (length more) in (
        behind ++ more,
        stays.whole LIMITS bytes more f.0 f.1 behind whole,
        inr (
          x.0,
          subst (λ (n : ℕ). FramesFrom LIMITS n (behind ++ more) requests end) (sym same)
              (frames_longer end (at + (length bytes - length behind)) behind requests longer x.1),
        ),
      )

  end_asked : (place : ℕ) (b : List ℕ) → IsEnd LIMITS place b on.asked → IsEnd LIMITS place (b ++ more) on.asked
  end_asked place b x = absurd x

  end_refused : (why : FrameFault) (at place : ℕ) (b : List ℕ) → IsEnd LIMITS place b (on.refused why at) → IsEnd LIMITS place (b ++ more) (on.refused why at)
  end_refused why at place b x = (some_more b more x.0, x.1, stays.refused_so LIMITS b more why x.2)

  waits_longer : (rest : List ℕ) (w : Bool) (why : FrameFault) → IsRefused LIMITS rest why → Waits rest w → Waits (rest ++ more) w
  waits_longer rest w why fault waits = record {
    accepted = λ h x. waits.accepted h (stays.before LIMITS rest more why h fault x);
    only = λ so. let k = waits.only so in (k.0, stays.accepted LIMITS rest more k.0 k.1);
  }

  nothing_more : (bytes : List ℕ) (requests : List Request) (rest : List ℕ) (end : End) (spent : Bool) (words : List ℕ) → more ≡ [] →
      EndsSo bytes requests rest end spent words → EndsSo (bytes ++ more) requests (rest ++ more) end spent words
  nothing_more bytes requests rest end spent words none x =
      let a = subst (λ (b : List ℕ). EndsSo b requests rest end spent words) (sym (append-nil bytes)) x in
      let b = subst (λ (r : List ℕ). EndsSo (bytes ++ []) requests r end spent words) (sym (append-nil rest)) a in
      subst (λ (m : List ℕ). EndsSo (bytes ++ m) requests (rest ++ m) end spent words) (sym none) b

  ends_longer : (bytes : List ℕ) (requests : List Request) (rest : List ℕ) (end : End) (spent : Bool) (words : List ℕ) → BeginsWith bytes requests rest →
      (IsOpen end → more ≡ []) → end ≢ ends.HubSpent → length (bytes ++ more) < LIMIT → EndsSo bytes requests rest end spent words →
      EndsSo (bytes ++ more) requests (rest ++ more) end spent words
  ends_longer bytes requests rest _ _ _ begins unended unspent few (closed frames less) =
      nothing_more bytes requests rest ends.Closed false [] (unended tt) (closed frames less)
  ends_longer bytes requests rest _ _ _ begins unended unspent few (asked frames) = asked (frames_longer on.asked 0 bytes requests end_asked frames)
  ends_longer bytes requests rest _ _ _ begins unended unspent few (refused why at w frames waits) =
      let r = refused_at 0 at bytes requests why frames in
      let fault = subst (λ (b : List ℕ). IsRefused LIMITS b why) (rest_one requests bytes r.rest rest r.begins begins) r.fault in
      refused why at w (frames_longer (on.refused why at) 0 bytes requests (end_refused why at) frames) (waits_longer rest w why fault waits)
  ends_longer bytes requests rest _ _ _ begins unended unspent few (cut at w frames less waits) =
      nothing_more bytes requests rest (ends.Cut at) false _ (unended tt) (cut at w frames less waits)
  ends_longer bytes requests rest _ _ _ begins unended unspent few (closed_at_limit frames most) = absurd (omega (arith, few, most, length-append bytes more))
  ends_longer bytes requests rest _ _ _ begins unended unspent few (cut_at_limit at w frames most waits) = absurd (omega (arith, few, most, length-append bytes more))
  ends_longer bytes requests rest _ _ _ begins unended unspent few hub_spent = absurd (unspent refl)

pub talks_stand : Stays → TalksStand
talks_stand stays c own s y bytes more served steps written p unended unspent few =
    let t = p.finished in
    record {
      finished = record {
        requests = t.requests;
        rest = t.rest ++ more;
        begins = begins_longer stays more t.requests bytes t.rest t.begins;
        spent = t.spent;
        responses = t.responses;
        scripts = t.scripts;
        last_words = t.last_words;
        ends = ends_longer stays more bytes t.requests t.rest served.end t.spent t.last_words t.begins unended unspent few t.ends;
        written_is = t.written_is;
        count = t.count;
        short_is = t.short_is;
      };
      within = omega (arith, few);
      answered = p.answered;
      asked = p.asked;
      still = p.still;
    }
