-- Responses that are written.
use Rattle.std.proofs.Common.{◌≡◌, ◌≢◌, ℕ, zero, suc, ◌+◌, ◌-◌, ◌<◌, Bool, true, false, List, [], ◌∷◌, ◌++◌, length, take, drop, refl, sym, ap, ◌∙◌, subst, arith, append-nil, append_assoc, length-append, length-drop}
use Rattle.std.specs.Prelude.{Option, Ok, Err}
use Rattle.std.proofs.lemmas.List.{take-append-drop, drop-drop, take_all}
use Rattle.std.proofs.Math.Seq.{drop-nil}
use Rattle.http_frames.specs.declared.frames.TheConstants.{LIMITS}
use Rattle.http_frames.specs.Frames.{Request, IsWhole, closes, expects}
use Rattle.node_client.specs.Steps.{Step, met_want}
use Rattle.conn_script.specs.declared.wants.End.{End}
use Rattle.conn_script.specs.declared.wants.End.TheVariants as ends
use Rattle.conn_script.specs.declared.wants.ConnFault.TheVariants as faults
use Rattle.conn_script.specs.declared.wants.TheConstants.{PIECE}
use Rattle.conn_script.specs.Responses.{Response, bytes_of, continue_text, created, hub_spent, is_last, left as no_response}
use Rattle.conn_script.specs.Undo.{Undoes}
use Rattle.conn_script.specs.Wanted.{Wanted, to_write}
use Rattle.hub_conn.specs.declared.inbox.Inbox.{Inbox}
use Rattle.hub_conn.specs.declared.talk.Talk.{Talk}
use Rattle.hub_conn.specs.declared.talk.State.TheVariants as states
use Rattle.hub_conn.specs.declared.talk.Outgoing.{Outgoing}
use Rattle.hub_conn.specs.declared.talk.Then.{Then}
use Rattle.hub_conn.specs.declared.talk.Then.TheVariants as after
use Rattle.hub_conn.specs.declared.talk.Kept.{Kept}
use Rattle.hub_conn.specs.declared.talk.Kept.TheVariants as kept
use Rattle.hub_conn.specs.Conversation.{Scripts, Talked, asked, hub_spent as ends_spent, WriteBroke, in_response, in_words, interim, Words, answer_text}
use Rattle.hub_conn.specs.Inbox.{Holds, HoldsSome, HoldsWhole, LeavesRest}
use Rattle.hub_conn.specs.Talk.{SameBut, Rests, EndsUndone, Answered, Standing, Writes, IsWriting, kept_undoes, IsComplete, Keeps, IsBetween, Responds, ThenAfter, StandsNow, SendsBy, SentAll, BreaksOff}
use Rattle.hub_conn.proofs.ReadLemmas.{WholeTakes, reads_more, begins_more, frames_asked}
use Rattle.hub_conn.proofs.ScriptLemmas.{scripts_more, scripts_last, response_some, is_of_spent_hub}
use Rattle.hub_conn.proofs.StateLemmas.{stands_in, done_stands, counts_kept}
use Rattle.hub_conn.proofs.EndLemmas.{settled_all}

take_add : (m n : ℕ) (l : List ℕ) → take (m + n) l ≡ take m l ++ take n (drop m l)
take_add zero n l = ap (λ (k : ℕ). take k l) (omega arith)
take_add (suc m) n [] = take_all (suc m + n) [] (omega arith) ∙ sym (ap (λ (t : List ℕ). t ++ take n (drop (suc m) [])) (take_all (suc m) [] (omega arith)) ∙ ap (λ (t : List ℕ). take n t) (drop-nil (suc m)) ∙ take_all n [] (omega arith))
take_add (suc m) n (x ∷ l) =
    let e : suc m + n ≡ suc (m + n) = omega arith in
    ap (λ (k : ℕ). take k (x ∷ l)) e ∙ ap (λ (t : List ℕ). x ∷ t) (take_add m n l)

-- ---- a response is begun

written_answer : (talk : Talk) (f : Request) (response : Response) (responses written text : List ℕ) → written ≡ responses ++ continue_text talk.continued →
    talk.continued ≡ expects LIMITS f.0 → text ≡ bytes_of response (closes f.0) → written ++ text ≡ responses ++ answer_text f response
written_answer talk f response responses written text is waits text_is =
    ap (λ (b : List ℕ). b ++ text) is ∙ append_assoc responses (continue_text talk.continued) text
    ∙ ap (λ (b : Bool). responses ++ (continue_text b ++ text)) waits
    ∙ ap (λ (t : List ℕ). responses ++ (continue_text (expects LIMITS f.0) ++ t)) text_is

-- what a write leaves that fails within it
response_breaks : (talk : Talk) (own : Option (List ℕ)) (f : Request) (response : Response) (bytes behind : List ℕ) (steps : List Step) (written : List ℕ) (text : List ℕ) (k : Kept) →
    (x : IsComplete talk own f response bytes steps written) → IsWhole LIMITS x.rest f.0 f.1 behind → Keeps k response → text ≡ bytes_of response (closes f.0) →
    (taken left : List ℕ) (undone : List Step) → text ≡ taken ++ left → 0 < length left → kept_undoes k undone → WriteBroke own bytes (steps ++ undone) (written ++ taken)
response_breaks talk own f response bytes behind steps written text k x whole keeps text_is taken left undone is some undoes = record {
  requests = x.answered.requests;
  rest = x.rest;
  begins = x.answered.reads;
  responses = x.responses;
  before = x.before;
  scripts = x.answered.scripts;
  behind = x.mine ++ undone;
  taken = continue_text (expects LIMITS f.0) ++ taken;
  breaks = in_response x.mine undone f behind response taken left whole x.answers (sym text_is ∙ is) some (what k keeps undoes);
  steps_are = ap (λ (s : List Step). s ++ undone) x.steps_are ∙ append_assoc x.before x.mine undone;
  written_is = ap (λ (b : List ℕ). b ++ taken) x.written_is ∙ append_assoc x.responses (continue_text talk.continued) taken
      ∙ ap (λ (b : Bool). x.responses ++ (continue_text b ++ taken)) x.at_front.continued_is;
}
  where
    what : (k : Kept) → Keeps k response → kept_undoes k undone → Undoes response undone
    what kept.Nothing keeps undoes = subst (λ (s : List Step). Undoes response s) (sym undoes) keeps
    what (kept.Created session binding) keeps undoes =
        subst (λ (r : Response). Undoes r undone) (sym keeps.1) undoes

-- one request more is answered
answered_more : (talk new : Talk) (own : Option (List ℕ)) (f : Request) (response : Response) (bytes behind : List ℕ) (steps : List Step) (written text : List ℕ) →
    (x : IsComplete talk own f response bytes steps written) → IsWhole LIMITS x.rest f.0 f.1 behind → closes f.0 ≡ false → is_last response ≡ false →
    new.frames ≡ talk.frames + 1 → text ≡ bytes_of response (closes f.0) → Answered own new.frames bytes behind steps (written ++ text)
answered_more talk new own f response bytes behind steps written text x whole kept_open last count text_is = record {
  requests = x.answered.requests ++ f ∷ [];
  reads = reads_more bytes x.answered.requests x.rest behind f x.answered.reads whole kept_open;
  scripts = subst (λ (w : List ℕ). Scripts own (x.answered.requests ++ f ∷ []) steps w false)
      (sym (written_answer talk f response x.responses written text x.written_is x.at_front.continued_is text_is))
      (subst (λ (s : List Step). Scripts own (x.answered.requests ++ f ∷ []) s (x.responses ++ answer_text f response) false) (sym x.steps_are)
      (scripts_more own x.answered.requests x.before x.responses false f x.mine response x.answered.scripts refl last x.answers));
  count = omega (arith, count, x.answered.count, length-append x.answered.requests (f ∷ []));
}

talked_asked : (talk new : Talk) (own : Option (List ℕ)) (f : Request) (response : Response) (bytes behind : List ℕ) (steps : List Step) (written text : List ℕ) →
    (x : IsComplete talk own f response bytes steps written) → IsWhole LIMITS x.rest f.0 f.1 behind → closes f.0 ≡ true → is_last response ≡ false →
    new.frames ≡ talk.frames + 1 → new.short ≡ met_want steps → text ≡ bytes_of response (closes f.0) →
    Talked own (record { frames = new.frames; end = ends.Asked; short = new.short }) bytes steps (written ++ text)
talked_asked talk new own f response bytes behind steps written text x whole last_one last count short text_is = record {
  requests = x.answered.requests ++ f ∷ [];
  rest = behind;
  begins = begins_more bytes x.answered.requests x.rest behind f x.answered.reads whole;
  spent = false;
  responses = written ++ text;
  scripts = subst (λ (w : List ℕ). Scripts own (x.answered.requests ++ f ∷ []) steps w false)
      (sym (written_answer talk f response x.responses written text x.written_is x.at_front.continued_is text_is))
      (subst (λ (s : List Step). Scripts own (x.answered.requests ++ f ∷ []) s (x.responses ++ answer_text f response) false) (sym x.steps_are)
      (scripts_more own x.answered.requests x.before x.responses false f x.mine response x.answered.scripts refl last x.answers));
  last_words = [];
  ends = asked (frames_asked 0 bytes x.answered.requests x.rest behind f x.answered.reads whole last_one);
  written_is = sym (append-nil (written ++ text));
  count = omega (arith, count, x.answered.count, length-append x.answered.requests (f ∷ []));
  short_is = short;
}

talked_spent : (talk new : Talk) (own : Option (List ℕ)) (f : Request) (response : Response) (bytes behind : List ℕ) (steps : List Step) (written text : List ℕ) →
    (x : IsComplete talk own f response bytes steps written) → IsWhole LIMITS x.rest f.0 f.1 behind → response ≡ hub_spent →
    new.frames ≡ talk.frames + 1 → new.short ≡ met_want steps → text ≡ bytes_of response (closes f.0) →
    Talked own (record { frames = new.frames; end = ends.HubSpent; short = new.short }) bytes steps (written ++ text)
talked_spent talk new own f response bytes behind steps written text x whole last count short text_is = record {
  requests = x.answered.requests ++ f ∷ [];
  rest = behind;
  begins = begins_more bytes x.answered.requests x.rest behind f x.answered.reads whole;
  spent = true;
  responses = written ++ text;
  scripts = subst (λ (w : List ℕ). Scripts own (x.answered.requests ++ f ∷ []) steps w true)
      (sym (written_answer talk f response x.responses written text x.written_is x.at_front.continued_is text_is))
      (subst (λ (s : List Step). Scripts own (x.answered.requests ++ f ∷ []) s (x.responses ++ answer_text f response) true) (sym x.steps_are)
      (scripts_last own x.answered.requests x.before x.responses false f x.mine response x.answered.scripts refl last x.answers));
  last_words = [];
  ends = ends_spent;
  written_is = sym (append-nil (written ++ text));
  count = omega (arith, count, x.answered.count, length-append x.answered.requests (f ∷ []));
  short_is = short;
}

-- what changes where a response is begun
pub record Begins (old new : Talk) (text : List ℕ) (k : Kept) (what_next : Then) (left : ℕ) : Type 0 where
  pub state : new.state ≡ states.Writing (record { bytes = text; sent = 0; then = what_next; kept = k })
  pub read : new.read ≡ old.read
  pub begins : new.begins ≡ old.read - left
  pub frames : new.frames ≡ old.frames + 1
  pub short : new.short ≡ old.short
  pub continued : new.continued ≡ false
  pub leaves : (rest : List ℕ) (f : Request) → HoldsWhole old.inbox rest f → LeavesRest rest f left new.inbox

-- there is a response
there : (k : Kept) (response : Response) → Keeps k response → response ≢ no_response
there kept.Nothing response keeps e = subst (λ (r : Response). Undoes r []) e keeps
there (kept.Created session binding) response keeps e = let never : created session keeps.0 binding ≡ no_response = sym keeps.1 ∙ e in cc

pub responds : WholeTakes → (old new : Talk) (text : List ℕ) (last : Bool) (k : Kept) (what_next : Then) (left : ℕ) → Begins old new text k what_next left →
    ThenAfter last old.closes what_next → Responds old text last k new
responds takes old new text last k what_next left b following own f response bytes steps written x keeps last_is text_is =
    let l = b.leaves x.rest f x.at_front.holds in
    let some : 0 < length text = subst (λ (t : List ℕ). 0 < length t) (sym text_is) (response_some response (closes f.0) (there k response keeps)) in
    let short : new.short ≡ met_want steps = b.short ∙ x.short in (
      to_write (take PIECE text),
      stands_in new (states.Writing (record { bytes = text; sent = 0; then = what_next; kept = k })) own (to_write (take PIECE text)) bytes steps written b.state (record {
        unsent = text;
        unsent_is = refl;
        some = some;
        wants = refl;
        short = short;
        writing = goes_on last old.closes what_next following last_is x.at_front.closes_is l;
        breaks = λ taken unwritten undone is more undoes.
            response_breaks old own f response bytes l.0 steps written text k x l.1 keeps text_is taken unwritten undone is more undoes;
      }),
    )
  where
    goes_on : (last closing : Bool) (what_next : Then) → ThenAfter last closing what_next → last ≡ is_last response → closing ≡ closes f.0 → LeavesRest x.rest f left new.inbox →
        IsWriting what_next new own bytes steps (written ++ text)
    goes_on true closing what_next e is close l =
        subst (λ (t : Then). IsWriting t new own bytes steps (written ++ text)) (sym e)
        (talked_spent old new own f response bytes l.0 steps written text x l.1 (is_of_spent_hub response (sym is) (there k response keeps)) b.frames (b.short ∙ x.short) text_is, refl, (l.0, l.2))
    goes_on false true what_next e is close l =
        subst (λ (t : Then). IsWriting t new own bytes steps (written ++ text)) (sym e)
        (talked_asked old new own f response bytes l.0 steps written text x l.1 (sym close) (sym is) b.frames (b.short ∙ x.short) text_is, refl, (l.0, l.2))
    goes_on false false what_next e is close l =
        subst (λ (t : Then). IsWriting t new own bytes steps (written ++ text)) (sym e) (
          l.0,
          answered_more old new own f response bytes l.0 steps written text x l.1 (sym close) (sym is) b.frames text_is,
          l.2,
          record {
            read = b.read ∙ x.counts.read;
            within = omega (arith, b.read, x.counts.within);
            begins = omega (arith, b.begins, b.read, l.3, x.counts.begins, takes LIMITS x.rest f.0 f.1 l.0 l.1);
            few = omega (arith, b.frames, b.begins, l.3, x.counts.begins, x.counts.few, takes LIMITS x.rest f.0 f.1 l.0 l.1);
          },
          b.continued,
        )

-- ---- bytes are taken

drop_some : (n : ℕ) (l : List ℕ) → n < length l → 0 < length (drop n l)
drop_some n l x = omega (arith, x, length-drop n l)

writing_kept : (old new : Talk) (own : Option (List ℕ)) (bytes : List ℕ) (steps : List Step) → SameBut old new → new.short ≡ old.short → new.continued ≡ old.continued →
    (t : Then) (all : List ℕ) → IsWriting t old own bytes steps all → IsWriting t new own bytes steps all
writing_kept old new own bytes steps same short continued after.Next all (rest, answered, holds, counts, none) = (
  rest,
  subst (λ (k : ℕ). Answered own k bytes rest steps all) (sym same.frames) answered,
  subst (λ (i : Inbox). Holds i rest) (sym same.inbox) holds,
  counts_kept old new bytes rest same counts,
  continued ∙ none,
)
writing_kept old new own bytes steps same short continued (after.End end) all x = (
  subst (λ (k : ℕ). Talked own (record { frames = k; end = end; short = new.short }) bytes steps all) (sym same.frames)
      (subst (λ (b : Bool). Talked own (record { frames = old.frames; end = end; short = b }) bytes steps all) (sym short) x.0),
  x.1,
  subst (λ (i : Inbox). HoldsSome i) (sym same.inbox) x.2,
)

pub writes_kept : (old new : Talk) (out : Outgoing) (own : Option (List ℕ)) (w : Wanted) (bytes : List ℕ) (steps : List Step) (written : List ℕ) → SameBut old new →
    new.short ≡ old.short → new.continued ≡ old.continued → Writes old out own w bytes steps written → Writes new out own w bytes steps written
writes_kept old new out own w bytes steps written same short continued x = record {
  unsent = x.unsent;
  unsent_is = x.unsent_is;
  some = x.some;
  wants = x.wants;
  short = short ∙ x.short;
  writing = writing_kept old new own bytes steps same short continued out.then (written ++ x.unsent) x.writing;
  breaks = x.breaks;
}

-- so many bytes more of a response, and some are left
pub sends_on : (old new : Talk) (out : Outgoing) (n : ℕ) → new.state ≡ states.Writing (record { bytes = out.bytes; sent = out.sent + n; then = out.then; kept = out.kept }) →
    SameBut old new → new.short ≡ old.short → new.continued ≡ old.continued → out.sent + n < length out.bytes → SendsBy old out n new
sends_on old new out n state same short continued few own w bytes steps written x =
    let text : drop n (drop out.sent out.bytes) ≡ drop (out.sent + n) out.bytes = drop-drop n out.sent out.bytes in
    let unsent = drop (out.sent + n) out.bytes in
    let all : (written ++ take n (drop out.sent out.bytes)) ++ unsent ≡ written ++ x.unsent =
    append_assoc written (take n (drop out.sent out.bytes)) unsent
    ∙ ap (λ (t : List ℕ). written ++ (take n (drop out.sent out.bytes) ++ t)) (sym text)
    ∙ ap (λ (t : List ℕ). written ++ t) (take-append-drop n (drop out.sent out.bytes)) ∙ ap (λ (t : List ℕ). written ++ t) (sym x.unsent_is) in (
      to_write (take PIECE unsent),
      stands_in new (states.Writing (record { bytes = out.bytes; sent = out.sent + n; then = out.then; kept = out.kept })) own (to_write (take PIECE unsent)) bytes steps
          (written ++ take n (drop out.sent out.bytes)) state (record {
            unsent = unsent;
            unsent_is = refl;
            some = drop_some (out.sent + n) out.bytes few;
            wants = refl;
            short = short ∙ x.short;
            writing = subst (λ (a : List ℕ). IsWriting out.then new own bytes steps a) (sym all) (writing_kept old new own bytes steps same short continued out.then (written ++ x.unsent) x.writing);
            breaks = λ taken left undone is some undoes.
                subst (λ (a : List ℕ). WriteBroke own bytes (steps ++ undone) a) (sym (append_assoc written (take n (drop out.sent out.bytes)) taken))
                (x.breaks (take n (drop out.sent out.bytes) ++ taken) left undone
                (x.unsent_is ∙ sym (take-append-drop n (drop out.sent out.bytes)) ∙ ap (λ (t : List ℕ). take n (drop out.sent out.bytes) ++ t) (text ∙ is)
                ∙ sym (append_assoc (take n (drop out.sent out.bytes)) taken left)) some undoes);
          }),
    )

-- the whole response was taken
all_taken : (out : Outgoing) (n : ℕ) (own : Option (List ℕ)) (talk : Talk) (w : Wanted) (bytes : List ℕ) (steps : List Step) (written : List ℕ) →
    (x : Writes talk out own w bytes steps written) → out.sent + n ≡ length out.bytes → written ++ take n (drop out.sent out.bytes) ≡ written ++ x.unsent
all_taken out n own talk w bytes steps written x all =
    ap (λ (t : List ℕ). written ++ t)
    (take_all n (drop out.sent out.bytes) (omega (arith, all, length-drop out.sent out.bytes)) ∙ sym x.unsent_is)

-- and the next request is looked at
pub between_of : (old : Talk) (out : Outgoing) (n : ℕ) (own : Option (List ℕ)) (w : Wanted) (bytes : List ℕ) (steps : List Step) (written : List ℕ) →
    Writes old out own w bytes steps written → out.then ≡ after.Next → out.sent + n ≡ length out.bytes →
    IsBetween old own bytes steps (written ++ take n (drop out.sent out.bytes))
between_of old out n own w bytes steps written x next all =
    let y = subst (λ (t : Then). IsWriting t old own bytes steps (written ++ x.unsent)) next x.writing in
    subst (λ (b : List ℕ). IsBetween old own bytes steps b) (sym (all_taken out n own old w bytes steps written x all)) (record {
      rest = y.0;
      responses = written ++ x.unsent;
      answered = y.1;
      holds = y.2;
      waited = λ e. absurd (no (sym y.4 ∙ e));
      written_is = sym (ap (λ (b : Bool). (written ++ x.unsent) ++ continue_text b) y.4 ∙ append-nil (written ++ x.unsent));
      counts = y.3;
      short = x.short;
    })
  where
    no : false ≡ true → ⊥
    no e = cc

-- or the connection ends so
pub ended_of : (old : Talk) (out : Outgoing) (n : ℕ) (end : End) (own : Option (List ℕ)) (w : Wanted) (bytes : List ℕ) (steps : List Step) (written : List ℕ) →
    Writes old out own w bytes steps written → out.then ≡ after.End end → out.sent + n ≡ length out.bytes →
    Talked own (record { frames = old.frames; end = end; short = old.short }) bytes steps (written ++ take n (drop out.sent out.bytes))
ended_of old out n end own w bytes steps written x last all =
    subst (λ (b : List ℕ). Talked own (record { frames = old.frames; end = end; short = old.short }) bytes steps b)
    (sym (all_taken out n own old w bytes steps written x all))
    (subst (λ (t : Then). IsWriting t old own bytes steps (written ++ x.unsent)) last x.writing).0

-- the whole response was taken, whatever comes then
pub sends_all : (old new : Talk) (out : Outgoing) (n : ℕ) → out.sent + n ≡ length out.bytes → SentAll old out.then new → SendsBy old out n new
sends_all old new out n all sent own w bytes steps written x = by_then out.then refl sent
  where
    by_then : (t : Then) → out.then ≡ t → SentAll old t new → StandsNow new own bytes steps (written ++ take n (drop out.sent out.bytes))
    by_then after.Next e looks = looks own bytes steps (written ++ take n (drop out.sent out.bytes)) (between_of old out n own w bytes steps written x e all)
    by_then (after.End end) e ended =
        done_stands new (Ok (record { frames = old.frames; end = end; short = old.short })) own bytes steps (written ++ take n (drop out.sent out.bytes)) ended
        (ended_of old out n end own w bytes steps written x e all)

-- ---- `100 Continue`

pub continues_on : (old new : Talk) (sent n : ℕ) (own : Option (List ℕ)) (w : Wanted) (bytes : List ℕ) (steps : List Step) (written : List ℕ) →
    Standing (states.Continuing sent) old own w bytes steps written → new.state ≡ states.Continuing (sent + n) → SameBut old new → new.short ≡ old.short → sent + n < 25 →
    StandsNow new own bytes steps (written ++ take n (drop sent (continue_text true)))
continues_on old new sent n own w bytes steps written x state same short few =
    let r = x.in_state in (
      to_write (drop (sent + n) (continue_text true)),
      stands_in new (states.Continuing (sent + n)) own (to_write (drop (sent + n) (continue_text true))) bytes steps (written ++ take n (drop sent (continue_text true))) state (record {
        rest = x.rest;
        before = x.before;
        mine = x.mine;
        responses = x.responses;
        since = take (sent + n) (continue_text true);
        answered = subst (λ (k : ℕ). Answered own k bytes x.rest x.before x.responses) (sym same.frames) x.answered;
        steps_are = x.steps_are;
        written_is = ap (λ (b : List ℕ). b ++ take n (drop sent (continue_text true))) (x.written_is ∙ ap (λ (b : List ℕ). x.responses ++ b) r.6)
            ∙ append_assoc x.responses (take sent (continue_text true)) (take n (drop sent (continue_text true)))
            ∙ ap (λ (b : List ℕ). x.responses ++ b) (sym (take_add sent n (continue_text true)));
        counts = counts_kept old new bytes x.rest same x.counts;
        aim = x.aim;
        settled = x.settled;
        settled_are = x.settled_are;
        short = short ∙ x.short;
        in_state = (r.0, refl, few, subst (λ (i : Inbox). Holds i x.rest) (sym same.inbox) r.3, r.4, r.5, refl);
      }),
    )

pub continued_all : (old new : Talk) (sent n : ℕ) (own : Option (List ℕ)) (w : Wanted) (bytes : List ℕ) (steps : List Step) (written : List ℕ) →
    Standing (states.Continuing sent) old own w bytes steps written → SameBut old new → new.short ≡ old.short → new.continued ≡ true → sent + n ≡ 25 →
    IsBetween new own bytes steps (written ++ take n (drop sent (continue_text true)))
continued_all old new sent n own w bytes steps written x same short continued all =
    let r = x.in_state in
    let steps_are : steps ≡ x.before = x.steps_are ∙ ap (λ (s : List Step). x.before ++ s) r.5 ∙ append-nil x.before in record {
      rest = x.rest;
      responses = x.responses;
      answered = subst (λ (k : ℕ). Answered own k bytes x.rest steps x.responses) (sym same.frames)
          (subst (λ (s : List Step). Answered own old.frames bytes x.rest s x.responses) (sym steps_are) x.answered);
      holds = subst (λ (i : Inbox). Holds i x.rest) (sym same.inbox) r.3;
      waited = λ e. r.4;
      written_is = ap (λ (b : List ℕ). b ++ take n (drop sent (continue_text true))) (x.written_is ∙ ap (λ (b : List ℕ). x.responses ++ b) r.6)
          ∙ append_assoc x.responses (take sent (continue_text true)) (take n (drop sent (continue_text true)))
          ∙ ap (λ (b : List ℕ). x.responses ++ b) (sym (take_add sent n (continue_text true)) ∙ take_all (sent + n) (continue_text true) (omega (arith, all)))
          ∙ ap (λ (b : Bool). x.responses ++ continue_text b) (sym continued);
      counts = counts_kept old new bytes x.rest same x.counts;
      short = short ∙ settled_all (states.Continuing sent) old own w bytes steps written x r.0;
    }

-- a write of it fails
pub continue_breaks : (old : Talk) (sent : ℕ) (own : Option (List ℕ)) (w : Wanted) (bytes : List ℕ) (steps : List Step) (written : List ℕ) →
    Standing (states.Continuing sent) old own w bytes steps written → WriteBroke own bytes steps written
continue_breaks old sent own w bytes steps written x =
    let r = x.in_state in record {
      requests = x.answered.requests;
      rest = x.rest;
      begins = x.answered.reads;
      responses = x.responses;
      before = x.before;
      scripts = x.answered.scripts;
      behind = [];
      taken = take sent (continue_text true);
      breaks = in_words (take sent (continue_text true)) (drop sent (continue_text true))
          (subst (λ (b : List ℕ). Words x.rest b) (sym (take-append-drop sent (continue_text true))) (interim r.4))
          (drop_some sent (continue_text true) (omega (arith, r.2)));
      steps_are = x.steps_are ∙ ap (λ (s : List Step). x.before ++ s) r.5;
      written_is = x.written_is ∙ ap (λ (b : List ℕ). x.responses ++ b) r.6;
    }

-- a write of a response fails: at once
pub writing_breaks : (old : Talk) (out : Outgoing) (own : Option (List ℕ)) (w : Wanted) (bytes : List ℕ) (steps : List Step) (written : List ℕ) →
    Writes old out own w bytes steps written → (undone : List Step) → kept_undoes out.kept undone → WriteBroke own bytes (steps ++ undone) written
writing_breaks old out own w bytes steps written x undone undoes =
    subst (λ (b : List ℕ). WriteBroke own bytes (steps ++ undone) b) (append-nil written) (x.breaks [] x.unsent undone refl x.some undoes)

-- ---- a response is broken off

pub breaks_kept : (old new : Talk) (out : Outgoing) (session : List ℕ) (binding : ℕ) → out.kept ≡ kept.Created session binding → EndsUndone faults.Write session binding new → BreaksOff old out new
breaks_kept old new out session binding e ends own w bytes steps written x =
    ends own bytes steps written (λ undone y.
    writing_breaks old out own w bytes steps written x undone (subst (λ (k : Kept). kept_undoes k undone) (sym e) y))

pub breaks_nothing : (old new : Talk) (out : Outgoing) → out.kept ≡ kept.Nothing → new.state ≡ states.Done (Err faults.Write) → BreaksOff old out new
breaks_nothing old new out e failed own w bytes steps written x =
    done_stands new (Err faults.Write) own bytes steps written failed
    (subst (λ (s : List Step). WriteBroke own bytes s written) (append-nil steps)
    (writing_breaks old out own w bytes steps written x [] (subst (λ (k : Kept). kept_undoes k []) (sym e) refl)))

-- ---- `100 Continue` is written where only the state was taken out

pub continuing_kept : (old new : Talk) (sent : ℕ) (own : Option (List ℕ)) (w : Wanted) (bytes : List ℕ) (steps : List Step) (written : List ℕ) → Rests old new →
    Standing (states.Continuing sent) old own w bytes steps written → Standing (states.Continuing sent) new own w bytes steps written
continuing_kept old new sent own w bytes steps written rests x =
    let r = x.in_state in record {
      rest = x.rest;
      before = x.before;
      mine = x.mine;
      responses = x.responses;
      since = x.since;
      answered = subst (λ (k : ℕ). Answered own k bytes x.rest x.before x.responses) (sym rests.same.frames) x.answered;
      steps_are = x.steps_are;
      written_is = x.written_is;
      counts = counts_kept old new bytes x.rest rests.same x.counts;
      aim = x.aim;
      settled = x.settled;
      settled_are = x.settled_are;
      short = rests.short ∙ x.short;
      in_state = (r.0, r.1, r.2, subst (λ (i : Inbox). Holds i x.rest) (sym rests.same.inbox) r.3, r.4, r.5, r.6);
    }
