-- Requests that one call of the hub answers, under way.
use Rattle.std.specs.Prelude.{◌≡◌, ℕ, Bool, false, [], ◌∷◌, Option}
use Rattle.grid_types.specs.Calls.{Call, Reply}
use Rattle.node_client.specs.Steps.{gives_up}
use Rattle.conn_script.specs.declared.calling.Asked.{Asked}
use Rattle.conn_script.specs.declared.calling.Asked.TheVariants as asked
use Rattle.conn_script.specs.declared.turn.Turn.{Turn}
use Rattle.conn_script.specs.declared.turn.Run.{Run}
use Rattle.conn_script.specs.declared.wants.HubAnswer.{HubAnswer}
use Rattle.conn_script.specs.Responses.{Response}
use Rattle.conn_script.specs.Messages.{register_response, node_response, clear_response, status_response, queue_response}
use Rattle.conn_script.specs.OneCall.{OneCall, CallLacks}
use Rattle.conn_script.specs.Wanted.{Kind, kind_of, call_step}
use Rattle.conn_script.specs.Turns.{Turns, Completes, Stops}

abbrev pub kind_asked : Asked → Kind
kind_asked asked.Register = Kind.register
kind_asked asked.Beat = Kind.beat
kind_asked asked.Drain = Kind.drain
kind_asked asked.Remove = Kind.remove
kind_asked asked.Clear = Kind.clear
kind_asked asked.Status = Kind.view
kind_asked asked.Queue = Kind.view

-- the response that a reply calls for
abbrev pub respond_of : Asked → Reply → Option Response
respond_of asked.Register = register_response
respond_of asked.Beat = node_response
respond_of asked.Drain = node_response
respond_of asked.Remove = node_response
respond_of asked.Clear = clear_response
respond_of asked.Status = status_response
respond_of asked.Queue = queue_response

-- no script of one call goes on after it
abbrev pub GoesNowhere : Run → Completes → Stops → Type 0
GoesNowhere run completes stops = ⊥

-- whatever the call was, its answer ends the script
abbrev pub CallTurns : Asked → HubAnswer → Turn → Bool → Type 0
CallTurns asked answer turn close =
    (call : Call) (at : ℕ) → kind_of call ≡ kind_asked asked → gives_up call ≡ false →
    Turns GoesNowhere (OneCall call (respond_of asked)) (CallLacks call) (call_step answer call at ∷ []) close turn
