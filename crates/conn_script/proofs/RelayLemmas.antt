-- The answers of a relay.
use Rattle.std.proofs.Common.{◌≡◌, ◌≢◌, ℕ, Bool, false, List, [], ◌∷◌, refl, inl, inr}
use Rattle.std.specs.Prelude.{Result, Ok, Err, Some, IfOk}
use Rattle.http_frames.specs.declared.replies.NodeReply.{NodeReply}
use Rattle.grid_types.specs.declared.text.NoMemory.{NoMemory}
use Rattle.grid_types.specs.declared.names.SlotId.{SlotId}
use Rattle.grid_types.specs.declared.entry.Found.{Found}
use Rattle.grid_types.specs.declared.entry.Found.TheVariants as found
use Rattle.grid_types.specs.Calls.{Call, Reply}
use Rattle.hub_core.specs.declared.answers.Touching.{Touching}
use Rattle.hub_core.specs.declared.answers.Touching.TheVariants as touching
use Rattle.grid_outside.specs.declared.exchange.Reply.TheVariants as node
use Rattle.grid_outside.specs.declared.exchange.ExchangeFault.TheVariants as fault
use Rattle.node_client.specs.Steps.{Called, Exchanged}
use Rattle.conn_script.specs.declared.relaying.Relaying.TheVariants as relaying
use Rattle.conn_script.specs.declared.turn.Turn.{Turn}
use Rattle.conn_script.specs.declared.turn.Turn.TheVariants as turn
use Rattle.conn_script.specs.declared.turn.Run.TheVariants as run
use Rattle.conn_script.specs.declared.wants.HubAnswer.{HubAnswer}
use Rattle.conn_script.specs.declared.wants.HubAnswer.TheVariants as answers
use Rattle.conn_script.specs.Responses.{bytes_of, passed_on}
use Rattle.conn_script.specs.Messages.{no_such_session, node_unreachable, node_not_http}
use Rattle.conn_script.specs.Relay as rules
use Rattle.conn_script.specs.Relay.{relayed, FindsNode, AfterFound, AfterTouch, RelayLacks, TouchLacks, ExchangeLacks}
use Rattle.conn_script.specs.Wanted.{to_call, to_ask, FitsKind, Kind}
use Rattle.conn_script.specs.Turns.{responded, IsUnanswered}
use Rattle.conn_script.specs.Relaying.{RelaysOn, FindTurns, TouchTurns, ExchangeTurns}
use Rattle.conn_script.proofs.TurnLemmas.{own_turns}
use Rattle.conn_script.proofs.ElseLemmas.{else_turns, else_lookup, else_touch}

pub find_else : (id target : List ℕ) (answer : HubAnswer) (t : Turn) (close : Bool) → FitsKind answer Kind.lookup → ((x : Found) → answer ≢ answers.Lookup x) →
    IsUnanswered answer t → FindTurns id target answer t close
find_else id target answer t close f n h q at =
    else_turns (RelaysOn q) (FindsNode (relayed q target) id) (RelayLacks (relayed q target) id) Kind.lookup (Call.lookup id) at close answer t (else_lookup answer f n) h
    (rules.lookup_spent at) refl (λ r. absurd r)

pub find_found : (id target : List ℕ) (slot : SlotId) (address : List ℕ) (b : ℕ) (close : Bool) →
    FindTurns id target (answers.Lookup (found.At slot address b)) (turn.Go (run.Relaying (relaying.Touch id b address target)) false) close
find_found id target slot address b close q at =
    ((to_call (Call.touch id b), refl, (λ more response p. rules.found_at at slot address b more response p), (λ more p. rules.behind_lookup at slot address b more p)), refl)

pub find_none : (id target : List ℕ) (close : Bool) (r : Result (List ℕ) NoMemory) → IfOk r (λ bytes. bytes ≡ bytes_of no_such_session close) →
    FindTurns id target (answers.Lookup found.NoSession) (responded r) close
find_none id target close r h q at =
    own_turns (RelaysOn q) (FindsNode (relayed q target) id) (RelayLacks (relayed q target) id) (Called (Call.lookup id) at (Some (Reply.found found.NoSession)) ∷ []) close r _ _
    (rules.not_found at) refl h

pub touch_else : (id : List ℕ) (b : ℕ) (address target : List ℕ) (answer : HubAnswer) (t : Turn) (close : Bool) → FitsKind answer Kind.touch →
    ((x : Touching) → answer ≢ answers.Touch x) → IsUnanswered answer t → TouchTurns id b address target answer t close
touch_else id b address target answer t close f n h q at =
    else_turns (RelaysOn q) (AfterFound (relayed q target) id address b) (TouchLacks (relayed q target) id address b) Kind.touch (Call.touch id b) at close answer t
    (else_touch answer f n) h (rules.touch_spent at) refl (λ r. rules.touch_lacks at)

pub touch_touched : (id : List ℕ) (b : ℕ) (address target : List ℕ) (close : Bool) →
    TouchTurns id b address target (answers.Touch touching.Touched) (turn.Go (run.Relaying (relaying.Exchange address target)) false) close
touch_touched id b address target close q at =
    ((to_ask address (relayed q target), refl, (λ more response p. rules.touched at more response p), (λ more p. rules.behind_touch at more p)), refl)

pub touch_none : (id : List ℕ) (b : ℕ) (address target : List ℕ) (close : Bool) (r : Result (List ℕ) NoMemory) → IfOk r (λ bytes. bytes ≡ bytes_of no_such_session close) →
    TouchTurns id b address target (answers.Touch touching.NoSession) (responded r) close
touch_none id b address target close r h q at =
    own_turns (RelaysOn q) (AfterFound (relayed q target) id address b) (TouchLacks (relayed q target) id address b) (Called (Call.touch id b) at (Some Reply.no_session) ∷ []) close r _ _
    (rules.not_touched at) refl h

pub exchange_http : (reply : NodeReply) (close : Bool) (r : Result (List ℕ) NoMemory) → IfOk r (λ bytes. bytes ≡ bytes_of (passed_on reply) close) →
    ExchangeTurns (Ok (node.Http reply)) (responded r) close
exchange_http reply close (Ok bytes) h q ask address = (passed_on reply, rules.asked _ _ refl, refl, refl, h, refl)
exchange_http reply close (Err e) h q ask address = inr (passed_on reply, rules.asked _ _ refl, refl)

pub exchange_not_http : (bytes : List ℕ) (close : Bool) (r : Result (List ℕ) NoMemory) → IfOk r (λ b. b ≡ bytes_of node_not_http close) →
    ExchangeTurns (Ok (node.NotHttp bytes)) (responded r) close
exchange_not_http bytes close r h q ask address =
    own_turns (RelaysOn q) (AfterTouch ask address) (ExchangeLacks ask address) (Exchanged address ask (Ok (node.NotHttp bytes)) ∷ []) close r _ _ (rules.asked _ _ refl) refl h

pub exchange_unreachable : (close : Bool) (r : Result (List ℕ) NoMemory) → IfOk r (λ b. b ≡ bytes_of node_unreachable close) →
    ExchangeTurns (Err fault.Unreachable) (responded r) close
exchange_unreachable close r h q ask address =
    own_turns (RelaysOn q) (AfterTouch ask address) (ExchangeLacks ask address) (Exchanged address ask (Err fault.Unreachable) ∷ []) close r _ _ (rules.asked _ _ refl) refl h

pub exchange_lacks : (close : Bool) → ExchangeTurns (Err fault.Memory) turn.Lacks close
exchange_lacks close q ask address = inl rules.not_sent
