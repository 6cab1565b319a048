-- How a conversation ends between two requests, or is cut short there.
use Rattle.std.proofs.Common.{◌≡◌, ◌≢◌, ◌⊎◌, ℕ, ◌+◌, ◌-◌, ◌<◌, Bool, true, false, List, [], ◌∷◌, ◌++◌, length, refl, sym, ap, ◌∙◌, subst, arith, append-nil, append_assoc, inl, inr}
use Rattle.std.specs.Prelude.{Option}
use Rattle.httparse.specs.Grammar.{RequestHead}
use Rattle.http_frames.specs.declared.frames.TheConstants.{LIMITS}
use Rattle.http_frames.specs.declared.frames.FrameLimits.{FrameLimits}
use Rattle.http_frames.specs.declared.FrameFault.{FrameFault}
use Rattle.http_frames.specs.Frames as on
use Rattle.http_frames.specs.Frames.{Frames, IsAccepted, IsAwaited, IsRefused}
use Rattle.node_client.specs.Steps.{Step, met_want}
use Rattle.conn_script.specs.declared.wants.End.{End}
use Rattle.conn_script.specs.declared.wants.End.TheVariants as ends
use Rattle.conn_script.specs.declared.wants.TheConstants.{LIMIT}
use Rattle.conn_script.specs.Responses.{bytes_of, continue_text}
use Rattle.conn_script.specs.Messages.{refusal}
use Rattle.conn_script.specs.Wanted.{Wanted}
use Rattle.conn_script.specs.Creating.{Aim, no_start, aim_steps}
use Rattle.hub_conn.specs.declared.talk.Talk.{Talk}
use Rattle.hub_conn.specs.declared.talk.State.{State}
use Rattle.hub_conn.specs.declared.talk.State.TheVariants as states
use Rattle.hub_conn.specs.Conversation.{Waits, EndsSo, closed, cut, refused, closed_at_limit, cut_at_limit, Talked, IsUnended, MemoryBroke, WriteBroke, Words, last, in_words, no_request}
use Rattle.hub_conn.specs.Talk.{Answered, Counts, Standing, IsReadOn}
use Rattle.hub_conn.proofs.ReadLemmas.{WholeTakes, reads_begins, frames_to}

-- no head is accepted in no bytes
abbrev pub NoneAccepted : Type 0
NoneAccepted = (limits : FrameLimits) (h : RequestHead) → ¬ (IsAccepted limits [] h)

-- ---- whole conversations

pub talked_of : (talk : Talk) (own : Option (List ℕ)) (bytes rest : List ℕ) (steps : List Step) (written : List ℕ) (end : End) (words more : List ℕ) →
    (x : IsReadOn talk own bytes rest steps written) → EndsSo bytes x.answered.requests rest end false words → continue_text talk.continued ++ more ≡ words →
    Talked own (record { frames = talk.frames; end = end; short = talk.short }) bytes steps (written ++ more)
talked_of talk own bytes rest steps written end words more x so is = record {
  requests = x.answered.requests;
  rest = rest;
  begins = reads_begins bytes x.answered.requests rest x.answered.reads;
  spent = false;
  responses = x.responses;
  scripts = x.answered.scripts;
  last_words = words;
  ends = so;
  written_is = ap (λ (b : List ℕ). b ++ more) x.written_is ∙ append_assoc x.responses (continue_text talk.continued) more ∙ ap (λ (b : List ℕ). x.responses ++ b) is;
  count = x.answered.count;
  short_is = x.short;
}

-- nothing more is written
pub talked_now : (talk : Talk) (own : Option (List ℕ)) (bytes rest : List ℕ) (steps : List Step) (written : List ℕ) (end : End) (words : List ℕ) →
    (x : IsReadOn talk own bytes rest steps written) → EndsSo bytes x.answered.requests rest end false words → continue_text talk.continued ≡ words →
    Talked own (record { frames = talk.frames; end = end; short = talk.short }) bytes steps written
talked_now talk own bytes rest steps written end words x so is =
    subst (λ (b : List ℕ). Talked own (record { frames = talk.frames; end = end; short = talk.short }) bytes steps b) (append-nil written)
    (talked_of talk own bytes rest steps written end words [] x so (append-nil (continue_text talk.continued) ∙ is))

no_words : NoneAccepted → (rest : List ℕ) (waits : Bool) → rest ≡ [] → Waits rest waits → continue_text waits ≡ []
no_words none rest false e x = refl
no_words none rest true e x =
    let h = x.only refl in absurd (none LIMITS h.0 (subst (λ (b : List ℕ). IsAccepted LIMITS b h.0) e h.1))

place_is : (talk : Talk) (bytes rest : List ℕ) → Counts talk bytes rest → talk.begins ≡ 0 + (length bytes - length rest)
place_is talk bytes rest x = omega (arith, x.begins, x.read)

frames_closed : WholeTakes → (talk : Talk) (own : Option (List ℕ)) (bytes rest : List ℕ) (steps : List Step) (written : List ℕ) →
    (x : IsReadOn talk own bytes rest steps written) → rest ≡ [] → Frames LIMITS bytes x.answered.requests on.closed
frames_closed takes talk own bytes rest steps written x e = frames_to takes 0 bytes x.answered.requests rest on.closed x.answered.reads e

frames_cut : WholeTakes → (talk : Talk) (own : Option (List ℕ)) (bytes rest : List ℕ) (steps : List Step) (written : List ℕ) →
    (x : IsReadOn talk own bytes rest steps written) → rest ≢ [] → ((waits : Bool) × IsAwaited LIMITS rest waits) →
    Frames LIMITS bytes x.answered.requests (on.cut talk.begins)
frames_cut takes talk own bytes rest steps written x other more =
    frames_to takes 0 bytes x.answered.requests rest (on.cut talk.begins) x.answered.reads (other, place_is talk bytes rest x.counts, more)

pub talked_closed : WholeTakes → NoneAccepted → (talk : Talk) (own : Option (List ℕ)) (bytes rest : List ℕ) (steps : List Step) (written : List ℕ) →
    IsReadOn talk own bytes rest steps written → rest ≡ [] → length bytes < LIMIT →
    Talked own (record { frames = talk.frames; end = ends.Closed; short = talk.short }) bytes steps written
talked_closed takes none talk own bytes rest steps written x e few =
    talked_now talk own bytes rest steps written ends.Closed [] x (closed (frames_closed takes talk own bytes rest steps written x e) few)
    (no_words none rest talk.continued e x.waits)

pub talked_cut : WholeTakes → (talk : Talk) (own : Option (List ℕ)) (bytes rest : List ℕ) (steps : List Step) (written : List ℕ) →
    IsReadOn talk own bytes rest steps written → rest ≢ [] → ((waits : Bool) × IsAwaited LIMITS rest waits) → length bytes < LIMIT →
    Talked own (record { frames = talk.frames; end = ends.Cut talk.begins; short = talk.short }) bytes steps written
talked_cut takes talk own bytes rest steps written x other more few =
    talked_now talk own bytes rest steps written (ends.Cut talk.begins) (continue_text talk.continued) x
    (cut talk.begins talk.continued (frames_cut takes talk own bytes rest steps written x other more) few x.waits) refl

-- there are bytes or none
none_or_some : (rest : List ℕ) → (rest ≡ []) ⊎ (rest ≢ [])
none_or_some [] = inl refl
none_or_some (b ∷ rest) = inr (λ e. cc)

pub unended : WholeTakes → NoneAccepted → (talk : Talk) (own : Option (List ℕ)) (bytes rest : List ℕ) (steps : List Step) (written : List ℕ) →
    IsReadOn talk own bytes rest steps written → ((waits : Bool) × IsAwaited LIMITS rest waits) → length bytes < LIMIT → IsUnended own bytes steps written
unended takes none talk own bytes rest steps written x more few =
    elim (none_or_some rest) [
      | inl e ↦ (record { frames = talk.frames; end = ends.Closed; short = talk.short }, tt, talked_closed takes none talk own bytes rest steps written x e few)
      | inr e ↦ (record { frames = talk.frames; end = ends.Cut talk.begins; short = talk.short }, tt, talked_cut takes talk own bytes rest steps written x e more few)
    ]

pub talked_limit : WholeTakes → NoneAccepted → (talk : Talk) (own : Option (List ℕ)) (bytes rest : List ℕ) (steps : List Step) (written : List ℕ) →
    IsReadOn talk own bytes rest steps written → ((waits : Bool) × IsAwaited LIMITS rest waits) → length bytes ≡ LIMIT →
    Talked own (record { frames = talk.frames; end = ends.Limit; short = talk.short }) bytes steps written
talked_limit takes none talk own bytes rest steps written x more all =
    elim (none_or_some rest) [
      | inl e ↦ talked_now talk own bytes rest steps written ends.Limit [] x (closed_at_limit (frames_closed takes talk own bytes rest steps written x e) all)
          (no_words none rest talk.continued e x.waits)
      | inr e ↦ talked_now talk own bytes rest steps written ends.Limit (continue_text talk.continued) x
          (cut_at_limit talk.begins talk.continued (frames_cut takes talk own bytes rest steps written x e more) all x.waits) refl
    ]

pub talked_refused : WholeTakes → (talk : Talk) (own : Option (List ℕ)) (bytes rest : List ℕ) (steps : List Step) (written : List ℕ) (why : FrameFault) →
    IsReadOn talk own bytes rest steps written → rest ≢ [] → IsRefused LIMITS rest why →
    Talked own (record { frames = talk.frames; end = ends.Refused why talk.begins; short = talk.short }) bytes steps (written ++ bytes_of (refusal why) true)
talked_refused takes talk own bytes rest steps written why x other fault =
    talked_of talk own bytes rest steps written (ends.Refused why talk.begins) (continue_text talk.continued ++ bytes_of (refusal why) true)
    (bytes_of (refusal why) true) x
    (refused why talk.begins talk.continued
    (frames_to takes 0 bytes x.answered.requests rest (on.refused why talk.begins) x.answered.reads (other, place_is talk bytes rest x.counts, fault)) x.waits)
    refl

-- ---- what cuts it short

pub memory_broke : (talk : Talk) (own : Option (List ℕ)) (bytes rest : List ℕ) (steps : List Step) (responses written : List ℕ) →
    Answered own talk.frames bytes rest steps responses → 0 < length rest → (talk.continued ≡ true → Waits rest true) → written ≡ responses ++ continue_text talk.continued →
    MemoryBroke own bytes steps written
memory_broke talk own bytes rest steps responses written answered some waited is = record {
  requests = answered.requests;
  rest = rest;
  begins = answered.reads;
  owes = some;
  responses = responses;
  before = steps;
  scripts = answered.scripts;
  waits = talk.continued;
  waits_so = waited;
  written_is = is;
  behind = [];
  lacks = no_request;
  steps_are = sym (append-nil steps);
}

-- a write of the response to a refused request fails
pub refusal_breaks : (talk : Talk) (own : Option (List ℕ)) (bytes rest : List ℕ) (steps : List Step) (written : List ℕ) (why : FrameFault) →
    IsReadOn talk own bytes rest steps written → IsRefused LIMITS rest why → (taken left : List ℕ) (undone : List Step) →
    bytes_of (refusal why) true ≡ taken ++ left → 0 < length left → undone ≡ [] → WriteBroke own bytes (steps ++ undone) (written ++ taken)
refusal_breaks talk own bytes rest steps written why x fault taken left undone is some none = record {
  requests = x.answered.requests;
  rest = rest;
  begins = x.answered.reads;
  responses = x.responses;
  before = steps;
  scripts = x.answered.scripts;
  behind = [];
  taken = continue_text talk.continued ++ taken;
  breaks = in_words (continue_text talk.continued ++ taken) left
      (subst (λ (b : List ℕ). Words rest b) (ap (λ (b : List ℕ). continue_text talk.continued ++ b) is ∙ sym (append_assoc (continue_text talk.continued) taken left))
      (last why talk.continued x.waits fault)) some;
  steps_are = ap (λ (s : List Step). steps ++ s) none;
  written_is = ap (λ (b : List ℕ). b ++ taken) x.written_is ∙ append_assoc x.responses (continue_text talk.continued) taken;
}

-- ---- a value that reads

pub settled_all : (s : State) (talk : Talk) (own : Option (List ℕ)) (w : Wanted) (bytes : List ℕ) (steps : List Step) (written : List ℕ) →
    (x : Standing s talk own w bytes steps written) → x.aim ≡ no_start → talk.short ≡ met_want steps
settled_all s talk own w bytes steps written x e =
    x.short ∙ ap met_want (sym (x.settled_are ∙ ap (λ (a : Aim). x.settled ++ aim_steps a) e ∙ append-nil x.settled))

pub read_on_of : (talk : Talk) (own : Option (List ℕ)) (w : Wanted) (bytes : List ℕ) (steps : List Step) (written : List ℕ) →
    (x : Standing states.Reading talk own w bytes steps written) → IsReadOn talk own bytes x.rest steps written
read_on_of talk own w bytes steps written x =
    let r = x.in_state in
    let steps_are : steps ≡ x.before = x.steps_are ∙ ap (λ (s : List Step). x.before ++ s) r.6 ∙ append-nil x.before in record {
      responses = x.responses;
      answered = subst (λ (s : List Step). Answered own talk.frames bytes x.rest s x.responses) (sym steps_are) x.answered;
      holds = r.3;
      waits = r.4;
      written_is = x.written_is ∙ ap (λ (b : List ℕ). x.responses ++ b) r.7;
      counts = x.counts;
      short = settled_all states.Reading talk own w bytes steps written x r.0;
    }
