-- An answer that is none of a call's own says that the hub is spent, or that there was no memory to make the call.
use Rattle.std.proofs.Common.{◌≡◌, ◌≢◌, ℕ, Bool, false, [], ◌∷◌, refl}
use Rattle.std.specs.Prelude.{None}
use Rattle.grid_types.specs.declared.entry.Found.{Found}
use Rattle.grid_types.specs.Calls.{Call}
use Rattle.hub_core.specs.declared.answers.Enqueued.{Enqueued}
use Rattle.hub_core.specs.declared.answers.Polled.{Polled}
use Rattle.hub_core.specs.declared.answers.Touching.{Touching}
use Rattle.hub_core.specs.declared.answers.Ending.{Ending}
use Rattle.hub_core.specs.declared.answers.Withdrawing.{Withdrawing}
use Rattle.node_client.specs.Steps.{Called, Spent, met_want}
use Rattle.conn_script.specs.declared.turn.Turn.{Turn}
use Rattle.conn_script.specs.declared.turn.Run.{Run}
use Rattle.conn_script.specs.declared.wants.HubAnswer.{HubAnswer}
use Rattle.conn_script.specs.declared.wants.HubAnswer.TheVariants as answers
use Rattle.grid_types.specs.declared.spent.Spent as spending
use Rattle.conn_script.specs.Responses.{hub_spent}
use Rattle.conn_script.specs.Wanted.{FitsKind, NeedsRoom, Kind, call_step}
use Rattle.conn_script.specs.Turns.{Turns, Completes, Stops, IsUnanswered}
use Rattle.conn_script.proofs.TurnLemmas.{spent_turns, lacks_turns}

-- what such an answer says of a call of this kind
pub data Else (k : Kind) : HubAnswer → Type 0 where
  spent : (s : spending.Spent) → Else k (answers.Spent s)
  no_room : NeedsRoom k → Else k answers.NoRoom

pub else_enqueue : (answer : HubAnswer) → FitsKind answer Kind.enqueue → ((x : Enqueued) → answer ≢ answers.Enqueue x) → Else Kind.enqueue answer
else_enqueue (answers.Register a) f n = absurd (cc)
else_enqueue (answers.Beat a) f n = absurd (cc)
else_enqueue (answers.Drain a) f n = absurd (cc)
else_enqueue (answers.Remove a) f n = absurd (cc)
else_enqueue (answers.Enqueue a) f n = absurd (n a refl)
else_enqueue (answers.Poll a) f n = absurd (cc)
else_enqueue (answers.Bind a) f n = absurd (cc)
else_enqueue (answers.Fail a) f n = absurd (cc)
else_enqueue (answers.Lookup a) f n = absurd (cc)
else_enqueue (answers.Touch a) f n = absurd (cc)
else_enqueue (answers.End a) f n = absurd (cc)
else_enqueue answers.Freed f n = absurd (cc)
else_enqueue (answers.Clear a) f n = absurd (cc)
else_enqueue (answers.View a) f n = absurd (cc)
else_enqueue (answers.Withdraw a) f n = absurd (cc)
else_enqueue (answers.Spent s) f n = spent s
else_enqueue answers.NoRoom f n = no_room f

pub else_poll : (answer : HubAnswer) → FitsKind answer Kind.poll → ((x : Polled) → answer ≢ answers.Poll x) → Else Kind.poll answer
else_poll (answers.Register a) f n = absurd (cc)
else_poll (answers.Beat a) f n = absurd (cc)
else_poll (answers.Drain a) f n = absurd (cc)
else_poll (answers.Remove a) f n = absurd (cc)
else_poll (answers.Enqueue a) f n = absurd (cc)
else_poll (answers.Poll a) f n = absurd (n a refl)
else_poll (answers.Bind a) f n = absurd (cc)
else_poll (answers.Fail a) f n = absurd (cc)
else_poll (answers.Lookup a) f n = absurd (cc)
else_poll (answers.Touch a) f n = absurd (cc)
else_poll (answers.End a) f n = absurd (cc)
else_poll answers.Freed f n = absurd (cc)
else_poll (answers.Clear a) f n = absurd (cc)
else_poll (answers.View a) f n = absurd (cc)
else_poll (answers.Withdraw a) f n = absurd (cc)
else_poll (answers.Spent s) f n = spent s
else_poll answers.NoRoom f n = no_room f

pub else_lookup : (answer : HubAnswer) → FitsKind answer Kind.lookup → ((x : Found) → answer ≢ answers.Lookup x) → Else Kind.lookup answer
else_lookup (answers.Register a) f n = absurd (cc)
else_lookup (answers.Beat a) f n = absurd (cc)
else_lookup (answers.Drain a) f n = absurd (cc)
else_lookup (answers.Remove a) f n = absurd (cc)
else_lookup (answers.Enqueue a) f n = absurd (cc)
else_lookup (answers.Poll a) f n = absurd (cc)
else_lookup (answers.Bind a) f n = absurd (cc)
else_lookup (answers.Fail a) f n = absurd (cc)
else_lookup (answers.Lookup a) f n = absurd (n a refl)
else_lookup (answers.Touch a) f n = absurd (cc)
else_lookup (answers.End a) f n = absurd (cc)
else_lookup answers.Freed f n = absurd (cc)
else_lookup (answers.Clear a) f n = absurd (cc)
else_lookup (answers.View a) f n = absurd (cc)
else_lookup (answers.Withdraw a) f n = absurd (cc)
else_lookup (answers.Spent s) f n = spent s
else_lookup answers.NoRoom f n = no_room f

pub else_touch : (answer : HubAnswer) → FitsKind answer Kind.touch → ((x : Touching) → answer ≢ answers.Touch x) → Else Kind.touch answer
else_touch (answers.Register a) f n = absurd (cc)
else_touch (answers.Beat a) f n = absurd (cc)
else_touch (answers.Drain a) f n = absurd (cc)
else_touch (answers.Remove a) f n = absurd (cc)
else_touch (answers.Enqueue a) f n = absurd (cc)
else_touch (answers.Poll a) f n = absurd (cc)
else_touch (answers.Bind a) f n = absurd (cc)
else_touch (answers.Fail a) f n = absurd (cc)
else_touch (answers.Lookup a) f n = absurd (cc)
else_touch (answers.Touch a) f n = absurd (n a refl)
else_touch (answers.End a) f n = absurd (cc)
else_touch answers.Freed f n = absurd (cc)
else_touch (answers.Clear a) f n = absurd (cc)
else_touch (answers.View a) f n = absurd (cc)
else_touch (answers.Withdraw a) f n = absurd (cc)
else_touch (answers.Spent s) f n = spent s
else_touch answers.NoRoom f n = no_room f

pub else_end : (answer : HubAnswer) → FitsKind answer Kind.end → ((x : Ending) → answer ≢ answers.End x) → Else Kind.end answer
else_end (answers.Register a) f n = absurd (cc)
else_end (answers.Beat a) f n = absurd (cc)
else_end (answers.Drain a) f n = absurd (cc)
else_end (answers.Remove a) f n = absurd (cc)
else_end (answers.Enqueue a) f n = absurd (cc)
else_end (answers.Poll a) f n = absurd (cc)
else_end (answers.Bind a) f n = absurd (cc)
else_end (answers.Fail a) f n = absurd (cc)
else_end (answers.Lookup a) f n = absurd (cc)
else_end (answers.Touch a) f n = absurd (cc)
else_end (answers.End a) f n = absurd (n a refl)
else_end answers.Freed f n = absurd (cc)
else_end (answers.Clear a) f n = absurd (cc)
else_end (answers.View a) f n = absurd (cc)
else_end (answers.Withdraw a) f n = absurd (cc)
else_end (answers.Spent s) f n = spent s
else_end answers.NoRoom f n = no_room f

pub else_withdraw : (answer : HubAnswer) → FitsKind answer Kind.withdraw → ((x : Withdrawing) → answer ≢ answers.Withdraw x) → Else Kind.withdraw answer
else_withdraw (answers.Register a) f n = absurd (cc)
else_withdraw (answers.Beat a) f n = absurd (cc)
else_withdraw (answers.Drain a) f n = absurd (cc)
else_withdraw (answers.Remove a) f n = absurd (cc)
else_withdraw (answers.Enqueue a) f n = absurd (cc)
else_withdraw (answers.Poll a) f n = absurd (cc)
else_withdraw (answers.Bind a) f n = absurd (cc)
else_withdraw (answers.Fail a) f n = absurd (cc)
else_withdraw (answers.Lookup a) f n = absurd (cc)
else_withdraw (answers.Touch a) f n = absurd (cc)
else_withdraw (answers.End a) f n = absurd (cc)
else_withdraw answers.Freed f n = absurd (cc)
else_withdraw (answers.Clear a) f n = absurd (cc)
else_withdraw (answers.View a) f n = absurd (cc)
else_withdraw (answers.Withdraw a) f n = absurd (n a refl)
else_withdraw (answers.Spent s) f n = spent s
else_withdraw answers.NoRoom f n = no_room f

-- then the script is over
pub else_turns : (G : Run → Completes → Stops → Type 0) (C : Completes) (S : Stops) (k : Kind) (call : Call) (at : ℕ) (close : Bool) (answer : HubAnswer) (t : Turn) →
    Else k answer → IsUnanswered answer t → C (Spent call at ∷ []) hub_spent → met_want (Spent call at ∷ []) ≡ false →
    (NeedsRoom k → S (Called call at None ∷ [])) → Turns G C S (call_step answer call at ∷ []) close t
else_turns G C S k call at close _ t (spent s) h c m l = spent_turns G C S (Spent call at ∷ []) close t c m h
else_turns G C S k call at close _ t (no_room r) h c m l = lacks_turns G C S (Called call at None ∷ []) close t (l r) h
