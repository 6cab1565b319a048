-- Turns from what their parts say.
use Rattle.std.proofs.Common.{◌≡◌, ℕ, Bool, false, List, refl, sym, ◌∙◌, subst, inl, inr}
use Rattle.std.specs.Prelude.{Result, Ok, Err, Option, Some, IfOk}
use Rattle.grid_types.specs.declared.text.NoMemory.{NoMemory}
use Rattle.grid_types.specs.Calls.{Reply}
use Rattle.node_client.specs.Steps.{Step, met_want}
use Rattle.conn_script.specs.declared.turn.Turn.{Turn}
use Rattle.conn_script.specs.declared.turn.Turn.TheVariants as turn
use Rattle.conn_script.specs.declared.turn.Run.{Run}
use Rattle.conn_script.specs.Responses.{Response, own, hub_spent, bytes_of}
use Rattle.conn_script.specs.Build.{Responds}
use Rattle.conn_script.specs.Turns.{Turns, Completes, Stops, responded, responded_last, IsSpentTurn}

pub if_ok : {A E : Type 0} (r : Result A E) (P Q : A → Type 0) → ((a : A) → P a → Q a) → IfOk r P → IfOk r Q
if_ok (Ok a) P Q f h = f a h
if_ok (Err e) P Q f h = tt

-- a response that the reply calls for
pub responds : (reply : Option Reply) (respond : Reply → Option Response) (said : Reply) (response : Response) (close : Bool) (r : Result (List ℕ) NoMemory) →
    reply ≡ Some said → respond said ≡ Some response → IfOk r (λ bytes. bytes ≡ bytes_of response close) → IfOk r (λ bytes. Responds reply respond bytes close)
responds reply respond said response close (Ok bytes) e f h = record { said = said; response = response; reply_is = e; response_is = f; bytes_are = h }
responds reply respond said response close (Err w) e f h = tt

-- the hub is spent
pub spent_turns : (G : Run → Completes → Stops → Type 0) (C : Completes) (S : Stops) (made : List Step) (close : Bool) (t : Turn) →
    C made hub_spent → met_want made ≡ false → IsSpentTurn t → Turns G C S made close t
spent_turns G C S made close (turn.Go run short) c m h = absurd h
spent_turns G C S made close (turn.Respond bytes) c m h = absurd h
spent_turns G C S made close (turn.Created bytes session binding) c m h = absurd h
spent_turns G C S made close (turn.Undo session binding) c m h = absurd h
spent_turns G C S made close (turn.RespondLast bytes short) c m h = (c, h.0, h.1 ∙ sym m)
spent_turns G C S made close turn.Lacks c m h = inr (hub_spent, c, refl)

-- there was no memory to make the call
pub lacks_turns : (G : Run → Completes → Stops → Type 0) (C : Completes) (S : Stops) (made : List Step) (close : Bool) (t : Turn) →
    S made → t ≡ turn.Lacks → Turns G C S made close t
lacks_turns G C S made close t s e = subst (λ (u : Turn). Turns G C S made close u) (sym e) (inl s)

-- a response of the hub's own is built or not
pub own_turns : (G : Run → Completes → Stops → Type 0) (C : Completes) (S : Stops) (made : List Step) (close : Bool) (r : Result (List ℕ) NoMemory) (status : ℕ) (body : List ℕ) →
    C made (own status body) → met_want made ≡ false → IfOk r (λ bytes. bytes ≡ bytes_of (own status body) close) → Turns G C S made close (responded r)
own_turns G C S made close (Ok bytes) status body c m h = (own status body, c, refl, refl, h, m)
own_turns G C S made close (Err e) status body c m h = inr (own status body, c, refl)

-- the last response is built or not
pub last_turns : (G : Run → Completes → Stops → Type 0) (C : Completes) (S : Stops) (made : List Step) (close : Bool) (r : Result (List ℕ) NoMemory) →
    C made hub_spent → met_want made ≡ false → IfOk r (λ bytes. bytes ≡ bytes_of hub_spent false) → Turns G C S made close (responded_last r false)
last_turns G C S made close (Ok bytes) c m h = (c, h, sym m)
last_turns G C S made close (Err e) c m h = inr (hub_spent, c, refl)
