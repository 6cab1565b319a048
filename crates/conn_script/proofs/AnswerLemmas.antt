-- The answer to a request that one call answers.
use Rattle.std.proofs.Common.{◌≡◌, ◌≢◌, ℕ, Bool, false, List, [], ◌∷◌, refl, sym, ◌∙◌, ap, subst, inl}
use Rattle.std.specs.Prelude.{◌||◌, Result, Ok, Err, Option, None, Some, IfOk}
use Rattle.grid_types.specs.declared.text.NoMemory.{NoMemory}
use Rattle.grid_types.specs.Calls.{Call, Reply}
use Rattle.hub_core.specs.declared.answers.Registering.TheVariants as registering
use Rattle.hub_core.specs.declared.answers.Beating.TheVariants as beating
use Rattle.hub_core.specs.declared.answers.Draining.TheVariants as draining
use Rattle.hub_core.specs.declared.answers.Removal.TheVariants as removal
use Rattle.node_client.specs.Steps.{Step, Called, gives_up}
use Rattle.conn_script.specs.declared.calling.Asked.{Asked}
use Rattle.conn_script.specs.declared.calling.Asked.TheVariants as asked
use Rattle.conn_script.specs.declared.wants.HubAnswer.{HubAnswer}
use Rattle.conn_script.specs.declared.wants.HubAnswer.TheVariants as answers
use Rattle.grid_types.specs.declared.spent.Spent as spending
use Rattle.conn_script.specs.Responses.{Response, own, bytes_of}
use Rattle.conn_script.specs.Build.{Responds}
use Rattle.conn_script.specs.OneCall.{OneCall, CallLacks, answered, call_lacks}
use Rattle.conn_script.specs.Wanted.{call_step, reply_of, is_spent, FitsKind}
use Rattle.conn_script.specs.Turns.{Turns, responded}
use Rattle.conn_script.specs.Calling.{kind_asked, respond_of, CallTurns, GoesNowhere}
use Rattle.conn_script.proofs.TurnLemmas.{own_turns}

-- what an answer tells of such a request
pub data ToldBy (a : Asked) (answer : HubAnswer) : Type 0 where
  lacks : reply_of answer ≡ None → ToldBy a answer
  tells : (said : Reply) (status : ℕ) (body : List ℕ) → reply_of answer ≡ Some said → respond_of a said ≡ Some (own status body) → ToldBy a answer

told_by : (a : Asked) (answer : HubAnswer) → FitsKind answer (kind_asked a) → is_spent answer ≡ false → ToldBy a answer
told_by asked.Register (answers.Register (registering.Registered n)) f h = tells (Reply.registered n) _ _ refl refl
told_by asked.Register (answers.Register (registering.NameTaken n)) f h = tells (Reply.name_taken n) _ _ refl refl
told_by asked.Register (answers.Register (registering.NodesFull n)) f h = tells (Reply.nodes_full n) _ _ refl refl
told_by asked.Register (answers.Register registering.NumbersSpent) f h = tells Reply.numbers_spent _ _ refl refl
told_by asked.Register (answers.Register (registering.Memory n)) f h = lacks refl
told_by asked.Register (answers.Beat x) f h = absurd (cc)
told_by asked.Register (answers.Drain x) f h = absurd (cc)
told_by asked.Register (answers.Remove x) f h = absurd (cc)
told_by asked.Register (answers.Enqueue x) f h = absurd (cc)
told_by asked.Register (answers.Poll x) f h = absurd (cc)
told_by asked.Register (answers.Bind x) f h = absurd (cc)
told_by asked.Register (answers.Fail x) f h = absurd (cc)
told_by asked.Register (answers.Lookup x) f h = absurd (cc)
told_by asked.Register (answers.Touch x) f h = absurd (cc)
told_by asked.Register (answers.End x) f h = absurd (cc)
told_by asked.Register (answers.Clear x) f h = absurd (cc)
told_by asked.Register (answers.View x) f h = absurd (cc)
told_by asked.Register (answers.Withdraw x) f h = absurd (cc)
told_by asked.Register answers.Freed f h = absurd (cc)
told_by asked.Register (answers.Spent x) f h = absurd (cc)
told_by asked.Register answers.NoRoom f h = lacks refl
told_by asked.Beat (answers.Register x) f h = absurd (cc)
told_by asked.Beat (answers.Beat beating.Beaten) f h = tells Reply.beaten _ _ refl refl
told_by asked.Beat (answers.Beat beating.NoNode) f h = tells Reply.no_node _ _ refl refl
told_by asked.Beat (answers.Drain x) f h = absurd (cc)
told_by asked.Beat (answers.Remove x) f h = absurd (cc)
told_by asked.Beat (answers.Enqueue x) f h = absurd (cc)
told_by asked.Beat (answers.Poll x) f h = absurd (cc)
told_by asked.Beat (answers.Bind x) f h = absurd (cc)
told_by asked.Beat (answers.Fail x) f h = absurd (cc)
told_by asked.Beat (answers.Lookup x) f h = absurd (cc)
told_by asked.Beat (answers.Touch x) f h = absurd (cc)
told_by asked.Beat (answers.End x) f h = absurd (cc)
told_by asked.Beat (answers.Clear x) f h = absurd (cc)
told_by asked.Beat (answers.View x) f h = absurd (cc)
told_by asked.Beat (answers.Withdraw x) f h = absurd (cc)
told_by asked.Beat answers.Freed f h = absurd (cc)
told_by asked.Beat (answers.Spent x) f h = absurd (cc)
told_by asked.Beat answers.NoRoom f h = lacks refl
told_by asked.Drain (answers.Register x) f h = absurd (cc)
told_by asked.Drain (answers.Beat x) f h = absurd (cc)
told_by asked.Drain (answers.Drain draining.Draining) f h = tells Reply.draining _ _ refl refl
told_by asked.Drain (answers.Drain draining.NoNode) f h = tells Reply.no_node _ _ refl refl
told_by asked.Drain (answers.Remove x) f h = absurd (cc)
told_by asked.Drain (answers.Enqueue x) f h = absurd (cc)
told_by asked.Drain (answers.Poll x) f h = absurd (cc)
told_by asked.Drain (answers.Bind x) f h = absurd (cc)
told_by asked.Drain (answers.Fail x) f h = absurd (cc)
told_by asked.Drain (answers.Lookup x) f h = absurd (cc)
told_by asked.Drain (answers.Touch x) f h = absurd (cc)
told_by asked.Drain (answers.End x) f h = absurd (cc)
told_by asked.Drain (answers.Clear x) f h = absurd (cc)
told_by asked.Drain (answers.View x) f h = absurd (cc)
told_by asked.Drain (answers.Withdraw x) f h = absurd (cc)
told_by asked.Drain answers.Freed f h = absurd (cc)
told_by asked.Drain (answers.Spent x) f h = absurd (cc)
told_by asked.Drain answers.NoRoom f h = lacks refl
told_by asked.Remove (answers.Register x) f h = absurd (cc)
told_by asked.Remove (answers.Beat x) f h = absurd (cc)
told_by asked.Remove (answers.Drain x) f h = absurd (cc)
told_by asked.Remove (answers.Remove removal.Removed) f h = tells Reply.removed _ _ refl refl
told_by asked.Remove (answers.Remove removal.NoNode) f h = tells Reply.no_node _ _ refl refl
told_by asked.Remove (answers.Enqueue x) f h = absurd (cc)
told_by asked.Remove (answers.Poll x) f h = absurd (cc)
told_by asked.Remove (answers.Bind x) f h = absurd (cc)
told_by asked.Remove (answers.Fail x) f h = absurd (cc)
told_by asked.Remove (answers.Lookup x) f h = absurd (cc)
told_by asked.Remove (answers.Touch x) f h = absurd (cc)
told_by asked.Remove (answers.End x) f h = absurd (cc)
told_by asked.Remove (answers.Clear x) f h = absurd (cc)
told_by asked.Remove (answers.View x) f h = absurd (cc)
told_by asked.Remove (answers.Withdraw x) f h = absurd (cc)
told_by asked.Remove answers.Freed f h = absurd (cc)
told_by asked.Remove (answers.Spent x) f h = absurd (cc)
told_by asked.Remove answers.NoRoom f h = lacks refl
told_by asked.Clear (answers.Register x) f h = absurd (cc)
told_by asked.Clear (answers.Beat x) f h = absurd (cc)
told_by asked.Clear (answers.Drain x) f h = absurd (cc)
told_by asked.Clear (answers.Remove x) f h = absurd (cc)
told_by asked.Clear (answers.Enqueue x) f h = absurd (cc)
told_by asked.Clear (answers.Poll x) f h = absurd (cc)
told_by asked.Clear (answers.Bind x) f h = absurd (cc)
told_by asked.Clear (answers.Fail x) f h = absurd (cc)
told_by asked.Clear (answers.Lookup x) f h = absurd (cc)
told_by asked.Clear (answers.Touch x) f h = absurd (cc)
told_by asked.Clear (answers.End x) f h = absurd (cc)
told_by asked.Clear (answers.Clear n) f h = tells (Reply.cleared n) _ _ refl refl
told_by asked.Clear (answers.View x) f h = absurd (cc)
told_by asked.Clear (answers.Withdraw x) f h = absurd (cc)
told_by asked.Clear answers.Freed f h = absurd (cc)
told_by asked.Clear (answers.Spent x) f h = absurd (cc)
told_by asked.Clear answers.NoRoom f h = lacks refl
told_by asked.Status (answers.Register x) f h = absurd (cc)
told_by asked.Status (answers.Beat x) f h = absurd (cc)
told_by asked.Status (answers.Drain x) f h = absurd (cc)
told_by asked.Status (answers.Remove x) f h = absurd (cc)
told_by asked.Status (answers.Enqueue x) f h = absurd (cc)
told_by asked.Status (answers.Poll x) f h = absurd (cc)
told_by asked.Status (answers.Bind x) f h = absurd (cc)
told_by asked.Status (answers.Fail x) f h = absurd (cc)
told_by asked.Status (answers.Lookup x) f h = absurd (cc)
told_by asked.Status (answers.Touch x) f h = absurd (cc)
told_by asked.Status (answers.End x) f h = absurd (cc)
told_by asked.Status (answers.Clear x) f h = absurd (cc)
told_by asked.Status (answers.View (Ok v)) f h = tells (Reply.viewed v) _ _ refl refl
told_by asked.Status (answers.View (Err e)) f h = lacks refl
told_by asked.Status (answers.Withdraw x) f h = absurd (cc)
told_by asked.Status answers.Freed f h = absurd (cc)
told_by asked.Status (answers.Spent x) f h = absurd (cc)
told_by asked.Status answers.NoRoom f h = lacks refl
told_by asked.Queue (answers.Register x) f h = absurd (cc)
told_by asked.Queue (answers.Beat x) f h = absurd (cc)
told_by asked.Queue (answers.Drain x) f h = absurd (cc)
told_by asked.Queue (answers.Remove x) f h = absurd (cc)
told_by asked.Queue (answers.Enqueue x) f h = absurd (cc)
told_by asked.Queue (answers.Poll x) f h = absurd (cc)
told_by asked.Queue (answers.Bind x) f h = absurd (cc)
told_by asked.Queue (answers.Fail x) f h = absurd (cc)
told_by asked.Queue (answers.Lookup x) f h = absurd (cc)
told_by asked.Queue (answers.Touch x) f h = absurd (cc)
told_by asked.Queue (answers.End x) f h = absurd (cc)
told_by asked.Queue (answers.Clear x) f h = absurd (cc)
told_by asked.Queue (answers.View (Ok v)) f h = tells (Reply.viewed v) _ _ refl refl
told_by asked.Queue (answers.View (Err e)) f h = lacks refl
told_by asked.Queue (answers.Withdraw x) f h = absurd (cc)
told_by asked.Queue answers.Freed f h = absurd (cc)
told_by asked.Queue (answers.Spent x) f h = absurd (cc)
told_by asked.Queue answers.NoRoom f h = lacks refl

not_spent : (answer : HubAnswer) → ((s : spending.Spent) → answer ≢ answers.Spent s) → is_spent answer ≡ false
not_spent (answers.Register x) n = refl
not_spent (answers.Beat x) n = refl
not_spent (answers.Drain x) n = refl
not_spent (answers.Remove x) n = refl
not_spent (answers.Enqueue x) n = refl
not_spent (answers.Poll x) n = refl
not_spent (answers.Bind x) n = refl
not_spent (answers.Fail x) n = refl
not_spent (answers.Lookup x) n = refl
not_spent (answers.Touch x) n = refl
not_spent (answers.End x) n = refl
not_spent (answers.Clear x) n = refl
not_spent (answers.View x) n = refl
not_spent (answers.Withdraw x) n = refl
not_spent answers.Freed n = refl
not_spent (answers.Spent x) n = absurd (n x refl)
not_spent answers.NoRoom n = refl

step_told : (answer : HubAnswer) (call : Call) (at : ℕ) → is_spent answer ≡ false → call_step answer call at ≡ Called call at (reply_of answer)
step_told (answers.Register x) call at h = refl
step_told (answers.Beat x) call at h = refl
step_told (answers.Drain x) call at h = refl
step_told (answers.Remove x) call at h = refl
step_told (answers.Enqueue x) call at h = refl
step_told (answers.Poll x) call at h = refl
step_told (answers.Bind x) call at h = refl
step_told (answers.Fail x) call at h = refl
step_told (answers.Lookup x) call at h = refl
step_told (answers.Touch x) call at h = refl
step_told (answers.End x) call at h = refl
step_told (answers.Clear x) call at h = refl
step_told (answers.View x) call at h = refl
step_told (answers.Withdraw x) call at h = refl
step_told answers.Freed call at h = refl
step_told (answers.Spent x) call at h = absurd (cc)
step_told answers.NoRoom call at h = refl

pub from_responds : (reply : Option Reply) (respond : Reply → Option Response) (said : Reply) (status : ℕ) (body bytes : List ℕ) (close : Bool) →
    reply ≡ Some said → respond said ≡ Some (own status body) → Responds reply respond bytes close → bytes ≡ bytes_of (own status body) close
from_responds reply respond said status body bytes close e f R =
    let told : Some R.said ≡ Some said = sym R.reply_is ∙ e in
    let it : R.said ≡ said = cc in
    let gives : Some R.response ≡ Some (own status body) = sym R.response_is ∙ ap respond it ∙ f in
    let same : R.response ≡ own status body = cc in
    R.bytes_are ∙ ap (λ (x : Response). bytes_of x close) same

own_ok : (reply : Option Reply) (respond : Reply → Option Response) (said : Reply) (status : ℕ) (body : List ℕ) (close spent : Bool) (r : Result (List ℕ) NoMemory) →
    reply ≡ Some said → respond said ≡ Some (own status body) → spent ≡ false → IfOk r (λ bytes. (spent ≡ false) → Responds reply respond bytes close) →
    IfOk r (λ bytes. bytes ≡ bytes_of (own status body) close)
own_ok reply respond said status body close spent (Ok bytes) e f n h = from_responds reply respond said status body bytes close e f (h n)
own_ok reply respond said status body close spent (Err w) e f n h = tt

lacking : (answer : HubAnswer) (a : Asked) (call : Call) (at : ℕ) (close spent : Bool) (r : Result (List ℕ) NoMemory) → reply_of answer ≡ None → spent ≡ false →
    IfOk r (λ bytes. (spent ≡ false) → Responds (reply_of answer) (respond_of a) bytes close) →
    Turns GoesNowhere (OneCall call (respond_of a)) (CallLacks call) (Called call at None ∷ []) close (responded r)
lacking answer a call at close spent (Ok bytes) e n h = let R = h n in let never : Some R.said ≡ None = sym R.reply_is ∙ e in absurd (cc)
lacking answer a call at close spent (Err w) e n h = inl (call_lacks at)

turns_by : (a : Asked) (answer : HubAnswer) (close : Bool) (r : Result (List ℕ) NoMemory) (call : Call) (at : ℕ) → ToldBy a answer → is_spent answer ≡ false → gives_up call ≡ false →
    IfOk r (λ bytes. (is_spent answer ≡ false) → Responds (reply_of answer) (respond_of a) bytes close) →
    Turns GoesNowhere (OneCall call (respond_of a)) (CallLacks call) (Called call at (reply_of answer) ∷ []) close (responded r)
turns_by a answer close r call at (lacks e) n g h =
    subst (λ (o : Option Reply). Turns GoesNowhere (OneCall call (respond_of a)) (CallLacks call) (Called call at o ∷ []) close (responded r)) (sym e)
    (lacking answer a call at close (is_spent answer) r e n h)
turns_by a answer close r call at (tells said status body e f) n g h =
    subst (λ (o : Option Reply). Turns GoesNowhere (OneCall call (respond_of a)) (CallLacks call) (Called call at o ∷ []) close (responded r)) (sym e)
    (own_turns GoesNowhere (OneCall call (respond_of a)) (CallLacks call) (Called call at (Some said) ∷ []) close r status body (answered at said (own status body) f)
    (ap (λ (b : Bool). b || false) g) (own_ok (reply_of answer) (respond_of a) said status body close (is_spent answer) r e f n h))

pub call_turns : (a : Asked) (answer : HubAnswer) (close : Bool) (r : Result (List ℕ) NoMemory) → FitsKind answer (kind_asked a) → ((s : spending.Spent) → answer ≢ answers.Spent s) →
    IfOk r (λ bytes. (is_spent answer ≡ false) → Responds (reply_of answer) (respond_of a) bytes close) → CallTurns a answer (responded r) close
call_turns a answer close r f n h call at k g =
    let no = not_spent answer n in
    subst (λ (s : Step). Turns GoesNowhere (OneCall call (respond_of a)) (CallLacks call) (s ∷ []) close (responded r)) (sym (step_told answer call at no))
    (turns_by a answer close r call at (told_by a answer f no) no g h)
