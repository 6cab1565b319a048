-- The answers of requests that one call answers, and how a call of theirs is taken.
use Rattle.std.proofs.Common.{◌≡◌, ◌≢◌, ℕ, Bool, false, List, [], ◌∷◌, refl, sym, ◌∙◌, ap, subst, append-nil}
use Rattle.std.specs.Prelude.{Result, Ok, Err, Some, IfOk}
use Rattle.grid_types.specs.declared.text.NoMemory.{NoMemory}
use Rattle.grid_types.specs.Calls.{Reply}
use Rattle.hub_core.specs.declared.answers.Beating.{Beating}
use Rattle.hub_core.specs.declared.answers.Draining.{Draining}
use Rattle.hub_core.specs.declared.answers.Removal.{Removal}
use Rattle.node_client.specs.Steps.{Spent}
use Rattle.conn_script.specs.declared.calling.Asked.{Asked}
use Rattle.conn_script.specs.declared.calling.Asked.TheVariants as asked
use Rattle.conn_script.specs.declared.calling.Calling.TheVariants as calling
use Rattle.conn_script.specs.declared.turn.Run.TheVariants as run
use Rattle.conn_script.specs.declared.wants.HubCall.{HubCall}
use Rattle.conn_script.specs.declared.wants.HubAnswer.{HubAnswer}
use Rattle.conn_script.specs.declared.wants.HubAnswer.TheVariants as answers
use Rattle.grid_types.specs.declared.spent.Spent as spending
use Rattle.conn_script.specs.Responses.{Response, bytes_of, hub_spent}
use Rattle.conn_script.specs.Build.{Responds}
use Rattle.conn_script.specs.OneCall.{OneCall, CallLacks, call_spent}
use Rattle.std.specs.Prelude.{◌||◌}
use Rattle.conn_script.specs.Wanted.{Wanted, answer_to, call_tokens, call_of, reply_of, is_spent, Kind, FitsKind}
use Rattle.conn_script.specs.Turns.{responded_last}
use Rattle.conn_script.specs.Calling.{kind_asked, respond_of, CallTurns, GoesNowhere}
use Rattle.conn_script.specs.Running.{RunFollows, RunStops, IsTaken}
use Rattle.conn_script.proofs.TurnLemmas.{last_turns}

-- the call is handed out as it stands
pub call_taken : (call : HubCall) (a : Asked) → IsTaken (run.Calling (calling.Ask call a)) call (run.Calling (calling.Asked a))
call_taken call a = record {
  waits = λ f aim w p. sym (ap answer_to p.1.1);
  keeps = sym (append-nil (call_tokens (call_of call)));
  wants = λ f aim w p. (p.1.0, (p.0, (call_of call, p.1.0, p.1.1, p.1.2, p.1.3)));
  leads = λ f aim w more response p q. subst (λ (v : Wanted). RunFollows f (run.Calling (calling.Asked a)) aim v more response) p.1.0 q;
  stops = λ f w more q e. subst (λ (v : Wanted). RunStops f (run.Calling (calling.Asked a)) v more) e q;
  work_is = λ o. refl;
}

-- the hub is spent
pub call_is_spent : (a : Asked) (s : spending.Spent) (close : Bool) (r : Result (List ℕ) NoMemory) → IfOk r (λ bytes. bytes ≡ bytes_of hub_spent false) →
    CallTurns a (answers.Spent s) (responded_last r false) close
call_is_spent a s close r h call at k g =
    last_turns GoesNowhere (OneCall call (respond_of a)) (CallLacks call) (Spent call at ∷ []) close r (call_spent at) (ap (λ (b : Bool). b || false) g) h

-- of two that are asked for with a view
pub asked_queue : (a : Asked) → kind_asked a ≡ Kind.view → a ≢ asked.Status → a ≡ asked.Queue
asked_queue asked.Register k n = absurd (cc)
asked_queue asked.Beat k n = absurd (cc)
asked_queue asked.Drain k n = absurd (cc)
asked_queue asked.Remove k n = absurd (cc)
asked_queue asked.Clear k n = absurd (cc)
asked_queue asked.Status k n = absurd (n refl)
asked_queue asked.Queue k n = refl

-- the response that a reply calls for
pub told_responds : (answer own_answer : HubAnswer) (a : Asked) (said : Reply) (response : Response) (close : Bool) (r : Result (List ℕ) NoMemory) →
    answer ≡ own_answer → reply_of own_answer ≡ Some said → respond_of a said ≡ Some response → IfOk r (λ bytes. bytes ≡ bytes_of response close) →
    IfOk r (λ bytes. (is_spent answer ≡ false) → Responds (reply_of answer) (respond_of a) bytes close)
told_responds answer o a said response close (Ok bytes) e f g h = λ n. record { said = said; response = response; reply_is = ap reply_of e ∙ f; response_is = g; bytes_are = h }
told_responds answer o a said response close (Err w) e f g h = tt

-- what was asked, by the answer that came
kind_in_answer : (answer own_answer : HubAnswer) (a : Asked) → answer ≡ own_answer → FitsKind answer (kind_asked a) → FitsKind own_answer (kind_asked a)
kind_in_answer answer o a e f = subst (λ (x : HubAnswer). FitsKind x (kind_asked a)) e f

is_beat : (a : Asked) → kind_asked a ≡ Kind.beat → a ≡ asked.Beat
is_beat asked.Register e = absurd (cc)
is_beat asked.Beat e = refl
is_beat asked.Drain e = absurd (cc)
is_beat asked.Remove e = absurd (cc)
is_beat asked.Clear e = absurd (cc)
is_beat asked.Status e = absurd (cc)
is_beat asked.Queue e = absurd (cc)

pub responds_beat : (answer : HubAnswer) (x : Beating) (a : Asked) (said : Reply) (response : Response) → answer ≡ answers.Beat x → FitsKind answer (kind_asked a) →
    respond_of asked.Beat said ≡ Some response → respond_of a said ≡ Some response
responds_beat answer x a said response e f g = ap (λ (b : Asked). respond_of b said) (is_beat a (kind_in_answer answer (answers.Beat x) a e f)) ∙ g

is_drain : (a : Asked) → kind_asked a ≡ Kind.drain → a ≡ asked.Drain
is_drain asked.Register e = absurd (cc)
is_drain asked.Beat e = absurd (cc)
is_drain asked.Drain e = refl
is_drain asked.Remove e = absurd (cc)
is_drain asked.Clear e = absurd (cc)
is_drain asked.Status e = absurd (cc)
is_drain asked.Queue e = absurd (cc)

pub responds_drain : (answer : HubAnswer) (x : Draining) (a : Asked) (said : Reply) (response : Response) → answer ≡ answers.Drain x → FitsKind answer (kind_asked a) →
    respond_of asked.Drain said ≡ Some response → respond_of a said ≡ Some response
responds_drain answer x a said response e f g = ap (λ (b : Asked). respond_of b said) (is_drain a (kind_in_answer answer (answers.Drain x) a e f)) ∙ g

is_remove : (a : Asked) → kind_asked a ≡ Kind.remove → a ≡ asked.Remove
is_remove asked.Register e = absurd (cc)
is_remove asked.Beat e = absurd (cc)
is_remove asked.Drain e = absurd (cc)
is_remove asked.Remove e = refl
is_remove asked.Clear e = absurd (cc)
is_remove asked.Status e = absurd (cc)
is_remove asked.Queue e = absurd (cc)

pub responds_remove : (answer : HubAnswer) (x : Removal) (a : Asked) (said : Reply) (response : Response) → answer ≡ answers.Remove x → FitsKind answer (kind_asked a) →
    respond_of asked.Remove said ≡ Some response → respond_of a said ≡ Some response
responds_remove answer x a said response e f g = ap (λ (b : Asked). respond_of b said) (is_remove a (kind_in_answer answer (answers.Remove x) a e f)) ∙ g

is_clear : (a : Asked) → kind_asked a ≡ Kind.clear → a ≡ asked.Clear
is_clear asked.Register e = absurd (cc)
is_clear asked.Beat e = absurd (cc)
is_clear asked.Drain e = absurd (cc)
is_clear asked.Remove e = absurd (cc)
is_clear asked.Clear e = refl
is_clear asked.Status e = absurd (cc)
is_clear asked.Queue e = absurd (cc)

pub responds_clear : (answer : HubAnswer) (x : ℕ) (a : Asked) (said : Reply) (response : Response) → answer ≡ answers.Clear x → FitsKind answer (kind_asked a) →
    respond_of asked.Clear said ≡ Some response → respond_of a said ≡ Some response
responds_clear answer x a said response e f g = ap (λ (b : Asked). respond_of b said) (is_clear a (kind_in_answer answer (answers.Clear x) a e f)) ∙ g

-- the response of an answer that is of the kind asked
pub kept_responds : (answer own_answer : HubAnswer) (a b : Asked) (close : Bool) (r : Result (List ℕ) NoMemory) → answer ≡ own_answer → a ≡ b →
    IfOk r (λ bytes. Responds (reply_of own_answer) (respond_of b) bytes close) → IfOk r (λ bytes. (is_spent answer ≡ false) → Responds (reply_of answer) (respond_of a) bytes close)
kept_responds answer o a b close (Ok bytes) e f h = λ n.
    subst (λ (x : HubAnswer). Responds (reply_of x) (respond_of a) bytes close) (sym e) (subst (λ (x : Asked). Responds (reply_of o) (respond_of x) bytes close) (sym f) h)
kept_responds answer o a b close (Err w) e f h = tt

pub asked_beat : (answer : HubAnswer) (x : Beating) (a : Asked) → answer ≡ answers.Beat x → FitsKind answer (kind_asked a) → a ≡ asked.Beat
asked_beat answer x a e f = is_beat a (kind_in_answer answer (answers.Beat x) a e f)

pub asked_drain : (answer : HubAnswer) (x : Draining) (a : Asked) → answer ≡ answers.Drain x → FitsKind answer (kind_asked a) → a ≡ asked.Drain
asked_drain answer x a e f = is_drain a (kind_in_answer answer (answers.Drain x) a e f)

pub asked_remove : (answer : HubAnswer) (x : Removal) (a : Asked) → answer ≡ answers.Remove x → FitsKind answer (kind_asked a) → a ≡ asked.Remove
asked_remove answer x a e f = is_remove a (kind_in_answer answer (answers.Remove x) a e f)
