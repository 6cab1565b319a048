-- What is looked at between two requests.
use Rattle.std.proofs.Common.{◌≡◌, ◌≢◌, ℕ, ◌-◌, ◌<◌, min, Bool, true, false, not, ◌&&◌, List, [], ◌∷◌, ◌++◌, length, take, drop, refl, sym, ap, ◌∙◌, subst, arith, append-nil, length-append}
use Rattle.std.specs.Prelude.{Option, Ok, Err}
use Rattle.httparse.specs.Grammar.{RequestHead}
use Rattle.http_frames.specs.declared.frames.TheConstants.{LIMITS}
use Rattle.http_frames.specs.declared.FrameFault.{FrameFault}
use Rattle.http_frames.specs.Frames.{Request, IsAccepted, IsWhole, whole_sized, whole_chunked, closes}
use Rattle.node_client.specs.Steps.{Step}
use Rattle.conn_script.specs.declared.wants.End.TheVariants as ends
use Rattle.conn_script.specs.declared.wants.ConnFault.TheVariants as faults
use Rattle.conn_script.specs.declared.wants.TheConstants.{LIMIT, PIECE}
use Rattle.conn_script.specs.Responses.{bytes_of, continue_text}
use Rattle.conn_script.specs.Messages.{refusal}
use Rattle.conn_script.specs.Wanted.{to_read, to_write, to_begin}
use Rattle.conn_script.specs.Creating.{no_start}
use Rattle.hub_conn.specs.declared.inbox.Inbox.{Inbox}
use Rattle.hub_conn.specs.declared.talk.Talk.{Talk}
use Rattle.hub_conn.specs.declared.talk.State.TheVariants as states
use Rattle.hub_conn.specs.declared.talk.Then.TheVariants as after
use Rattle.hub_conn.specs.declared.talk.Kept.TheVariants as kept
use Rattle.hub_conn.specs.Conversation.{Waits, Talked}
use Rattle.hub_conn.specs.Inbox.{unread, Holds, HoldsWhole}
use Rattle.hub_conn.specs.Talk.{SameBut, Rests, Answered, IsBetween, IsReadOn, StandsNow, Looks, ReadsOn, Refuses}
use Rattle.hub_conn.proofs.ReadLemmas.{WholeStays, WholeTakes}
use Rattle.hub_conn.proofs.ScriptLemmas.{response_some}
use Rattle.hub_conn.proofs.StateLemmas.{stands_in, done_stands, counts_kept}
use Rattle.hub_conn.proofs.EndLemmas.{NoneAccepted, memory_broke, talked_limit, talked_refused, refusal_breaks}

-- ---- there is no memory to read on, where bytes stand that were not read yet

pub look_broke : (old new : Talk) → 0 < length (unread old.inbox) → new.state ≡ states.Done (Err faults.Memory) → Looks old new
look_broke old new some failed own bytes steps written x =
    done_stands new (Err faults.Memory) own bytes steps written failed
    (memory_broke old own bytes x.rest steps x.responses written x.answered (omega (arith, some, ap length x.holds.2, length-append x.holds.0 (unread old.inbox))) x.waited x.written_is)

-- ---- a client waits

pub look_waits : (old mid new : Talk) → new.state ≡ states.Continuing 0 → SameBut mid new → new.short ≡ old.short → old.continued ≡ false →
    mid.read ≡ old.read → mid.begins ≡ old.begins → mid.frames ≡ old.frames →
    ((bytes : List ℕ) → Holds old.inbox bytes → Holds mid.inbox bytes) → ((bytes : List ℕ) → Holds mid.inbox bytes → Waits bytes true) → Looks old new
look_waits old mid new state same short none read begins frames holds waits own bytes steps written x =
    let held = holds x.rest x.holds in (
      to_write (drop 0 (continue_text true)),
      stands_in new (states.Continuing 0) own (to_write (drop 0 (continue_text true))) bytes steps written state (record {
        rest = x.rest;
        before = steps;
        mine = [];
        responses = x.responses;
        since = [];
        answered = subst (λ (k : ℕ). Answered own k bytes x.rest steps x.responses) (sym (same.frames ∙ frames)) x.answered;
        steps_are = sym (append-nil steps);
        written_is = x.written_is ∙ ap (λ (b : Bool). x.responses ++ continue_text b) none;
        counts = record {
          read = same.read ∙ read ∙ x.counts.read;
          within = omega (arith, same.read, read, x.counts.within);
          begins = omega (arith, same.read, read, same.begins, begins, x.counts.begins);
          few = omega (arith, same.frames, frames, same.begins, begins, x.counts.few);
        };
        aim = no_start;
        settled = steps;
        settled_are = sym (append-nil steps);
        short = short ∙ x.short;
        in_state = (refl, refl, omega arith, subst (λ (i : Inbox). Holds i x.rest) (sym same.inbox) held, waits x.rest held, refl, refl);
      }),
    )

pub due_waits : (waits continued : Bool) → (waits && not continued) ≡ true → waits ≡ true
due_waits true continued e = refl
due_waits false continued e = e

pub due_none : (waits continued : Bool) → (waits && not continued) ≡ true → continued ≡ false
due_none waits false e = refl
due_none true true e = sym e
due_none false true e = absurd cc

-- ---- no client waits, or it is told

what_waits : (rest : List ℕ) (continued waits : Bool) → (continued ≡ true → Waits rest true) → Waits rest waits → (waits && not continued) ≡ false → Waits rest continued
what_waits rest true waits told x e = told refl
what_waits rest false true told x e = absurd cc
what_waits rest false false told x e = x

pub read_on_from : (old mid : Talk) (waits : Bool) (own : Option (List ℕ)) (bytes : List ℕ) (steps : List Step) (written : List ℕ) → (x : IsBetween old own bytes steps written) →
    mid.read ≡ old.read → mid.begins ≡ old.begins → mid.frames ≡ old.frames → mid.short ≡ old.short → mid.continued ≡ old.continued →
    ((rest : List ℕ) → Holds old.inbox rest → Holds mid.inbox rest) → ((rest : List ℕ) → Holds mid.inbox rest → Waits rest waits) → (waits && not old.continued) ≡ false →
    IsReadOn mid own bytes x.rest steps written
read_on_from old mid waits own bytes steps written x read begins frames short continued holds told none =
    let held = holds x.rest x.holds in record {
      responses = x.responses;
      answered = subst (λ (k : ℕ). Answered own k bytes x.rest steps x.responses) (sym frames) x.answered;
      holds = held;
      waits = subst (λ (b : Bool). Waits x.rest b) (sym continued) (what_waits x.rest old.continued waits x.waited (told x.rest held) none);
      written_is = x.written_is ∙ ap (λ (b : Bool). x.responses ++ continue_text b) (sym continued);
      counts = record {
        read = read ∙ x.counts.read;
        within = omega (arith, read, x.counts.within);
        begins = omega (arith, read, begins, x.counts.begins);
        few = omega (arith, frames, begins, x.counts.few);
      };
      short = short ∙ x.short;
    }

-- ---- more bytes are awaited

pub reads_limit : WholeTakes → NoneAccepted → (old new : Talk) → old.read ≡ LIMIT → new.state ≡ states.Done (Ok (record { frames = old.frames; end = ends.Limit; short = old.short })) →
    ReadsOn old new
reads_limit takes none old new all ended own bytes rest steps written x more read =
    done_stands new (Ok (record { frames = old.frames; end = ends.Limit; short = old.short })) own bytes steps written ended
    (talked_limit takes none old own bytes rest steps written x more (sym x.counts.read ∙ all))

pub reads_more_of : (old new : Talk) → old.read ≢ LIMIT → new.state ≡ states.Reading → Rests old new → ReadsOn old new
reads_more_of old new other state rests own bytes rest steps written x more read =
    let few : new.read < LIMIT = omega (arith, rests.same.read, other, x.counts.within) in (
      to_read (min PIECE (LIMIT - new.read)),
      stands_in new states.Reading own (to_read (min PIECE (LIMIT - new.read))) bytes steps written state (record {
        rest = rest;
        before = steps;
        mine = [];
        responses = x.responses;
        since = continue_text new.continued;
        answered = subst (λ (k : ℕ). Answered own k bytes rest steps x.responses) (sym rests.same.frames) x.answered;
        steps_are = sym (append-nil steps);
        written_is = x.written_is ∙ ap (λ (b : Bool). x.responses ++ continue_text b) (sym rests.continued);
        counts = counts_kept old new bytes rest rests.same x.counts;
        aim = no_start;
        settled = steps;
        settled_are = sym (append-nil steps);
        short = rests.short ∙ x.short;
        in_state = (
          refl,
          refl,
          few,
          subst (λ (i : Inbox). Holds i rest) (sym rests.same.inbox) x.holds,
          subst (λ (b : Bool). Waits rest b) (sym rests.continued) x.waits,
          more,
          refl,
          refl,
          subst (λ (i : Inbox). unread i ≡ []) (sym rests.same.inbox) read,
        );
      }),
    )

-- ---- a fault

pub refuses_so : WholeTakes → (old new : Talk) (why : FrameFault) (text : List ℕ) → text ≡ bytes_of (refusal why) true →
    new.state ≡ states.Writing (record { bytes = text; sent = 0; then = after.End (ends.Refused why old.begins); kept = kept.Nothing }) →
    SameBut old new → new.short ≡ old.short → Refuses old why new
refuses_so takes old new why text text_is state same short own bytes rest steps written x (fault, some) = (
  to_write (take PIECE text),
  stands_in new (states.Writing (record { bytes = text; sent = 0; then = after.End (ends.Refused why old.begins); kept = kept.Nothing })) own (to_write (take PIECE text)) bytes steps written state
      (record {
        unsent = text;
        unsent_is = refl;
        some = subst (λ (t : List ℕ). 0 < length t) (sym text_is) (response_some (refusal why) true (λ e. cc));
        wants = refl;
        short = short ∙ x.short;
        writing = (
          subst (λ (k : ℕ). Talked own (record { frames = k; end = ends.Refused why old.begins; short = new.short }) bytes steps (written ++ text)) (sym same.frames)
              (subst (λ (b : Bool). Talked own (record { frames = old.frames; end = ends.Refused why old.begins; short = b }) bytes steps (written ++ text)) (sym short)
              (subst (λ (t : List ℕ). Talked own (record { frames = old.frames; end = ends.Refused why old.begins; short = old.short }) bytes steps (written ++ t)) (sym text_is)
              (talked_refused takes old own bytes rest steps written why x some fault))),
          refl,
          (rest, subst (λ (i : Inbox). Holds i rest) (sym same.inbox) x.holds),
        );
        breaks = λ taken left undone is more none. refusal_breaks old own bytes rest steps written why x fault taken left undone (sym text_is ∙ is) more none;
      }),
)

some_of : (rest : List ℕ) → ¬ (rest ≡ []) → 0 < length rest
some_of [] none = absurd (none refl)
some_of (b ∷ rest) none = omega arith

waited_of : (rest : List ℕ) (continued : Bool) → Waits rest continued → continued ≡ true → Waits rest true
waited_of rest continued x e = subst (λ (b : Bool). Waits rest b) e x

pub refuse_broke : (old new : Talk) (why : FrameFault) → new.state ≡ states.Done (Err faults.Memory) → Refuses old why new
refuse_broke old new why failed own bytes rest steps written x y =
    done_stands new (Err faults.Memory) own bytes steps written failed
    (memory_broke old own bytes rest steps x.responses written x.answered (some_of rest y.1) (λ e. waited_of rest old.continued x.waits e) x.written_is)

-- ---- a whole request

whole_accepted : (b : List ℕ) (h : RequestHead) (parts : List (List ℕ)) (behind : List ℕ) → IsWhole LIMITS b h parts behind → IsAccepted LIMITS b h
whole_accepted b h parts behind (whole_sized rest n has framing fits parts_are behind_is) = (rest, has, (λ why e. cc))
whole_accepted b h parts behind (whole_chunked rest cs last has framing chunks fits end parts_are) = (rest, has, (λ why e. cc))

pub whole_begins : WholeStays → (old new : Talk) (own : Option (List ℕ)) (bytes rest : List ℕ) (steps : List Step) (written : List ℕ) (closing : Bool) → IsReadOn old own bytes rest steps written →
    ((f : Request) × HoldsWhole old.inbox rest f × (closing ≡ closes f.0)) → new.state ≡ states.Beginning → SameBut old new → new.short ≡ old.short → new.continued ≡ old.continued →
    new.closes ≡ closing → StandsNow new own bytes steps written
whole_begins stays old new own bytes rest steps written closing x (f, (front, read, is, whole, at_end), close) state same short continued closes_is =
    let accepted : IsAccepted LIMITS rest f.0 =
    subst (λ (b : List ℕ). IsAccepted LIMITS b f.0) (sym is) (whole_accepted (front ++ unread old.inbox) f.0 f.1 (unread old.inbox) (stays LIMITS front (unread old.inbox) f.0 f.1 [] whole)) in (
      to_begin,
      stands_in new states.Beginning own to_begin bytes steps written state (record {
        rest = rest;
        before = steps;
        mine = [];
        responses = x.responses;
        since = continue_text new.continued;
        answered = subst (λ (k : ℕ). Answered own k bytes rest steps x.responses) (sym same.frames) x.answered;
        steps_are = sym (append-nil steps);
        written_is = x.written_is ∙ ap (λ (b : Bool). x.responses ++ continue_text b) (sym continued);
        counts = counts_kept old new bytes rest same x.counts;
        aim = no_start;
        settled = steps;
        settled_are = sym (append-nil steps);
        short = short ∙ x.short;
        in_state = (
          refl,
          f,
          record {
            holds = subst (λ (i : Inbox). HoldsWhole i rest f) (sym same.inbox) (front, read, is, whole, at_end);
            closes_is = closes_is ∙ close;
            continued_is = continued ∙ x.waits.accepted f.0 accepted;
            waited = λ e. waited_of rest old.continued x.waits (sym continued ∙ e);
          },
          refl,
          refl,
          refl,
        );
      }),
    )
