-- Which steps a request calls for, and its response.
use Rattle.std.specs.Prelude.{◌≡◌, ℕ, List, [], ◌++◌, Result, Ok, Err}
use Rattle.std.specs.List.{concat}
use Rattle.http_frames.specs.Frames.{Request}
use Rattle.grid_types.specs.Calls.{Call}
use Rattle.router_core.specs.declared.routed.RouteFault.{RouteFault}
use Rattle.router_core.specs.declared.routed.RouteFault.TheVariants as fault
use Rattle.router_core.specs.Routes.{Route, new_session, delete_session, relay, status, queue, clear_queue, register, remove, drain, beat, route_of}
use Rattle.node_client.specs.Steps.{Step}
use Rattle.conn_script.specs.Responses.{Response}
use Rattle.conn_script.specs.Messages.{unknown_command, unknown_method, status_response, queue_response, clear_response}
use Rattle.conn_script.specs.OneCall.{OneCall, CallLacks, NodeCall, NodeCallLacks, Beats, BeatsLack, Registers, RegisterLacks}
use Rattle.conn_script.specs.DeleteSession.{DeleteSession, DeleteLacks}
use Rattle.conn_script.specs.Relay.{Relay, RelayLacks, relayed}
use Rattle.conn_script.specs.NewSession.{NewSession, EnqueueLacks}
use Rattle.conn_script.specs.Undo.{Undoes}

-- the request's body, its chunks joined
abbrev pub body_of : Request → List ℕ
body_of request = concat request.1

-- the steps and the response, by the route
abbrev pub ByRoute : Result Route RouteFault → Request → List Step → Response → Type 0
ByRoute (Err fault.UnknownCommand) request steps response =
    (steps ≡ []) × (response ≡ unknown_command)
ByRoute (Err fault.UnknownMethod) request steps response =
    (steps ≡ []) × (response ≡ unknown_method)
ByRoute (Err fault.Memory) request steps response = ⊥
ByRoute (Ok new_session) request steps response = NewSession (body_of request) steps response
ByRoute (Ok (delete_session id)) request steps response = DeleteSession id steps response
ByRoute (Ok (relay id target)) request steps response =
    Relay (relayed request target) id steps response
ByRoute (Ok status) request steps response = OneCall Call.view status_response steps response
ByRoute (Ok queue) request steps response = OneCall Call.view queue_response steps response
ByRoute (Ok clear_queue) request steps response = OneCall Call.clear clear_response steps response
ByRoute (Ok register) request steps response = Registers (body_of request) steps response
ByRoute (Ok (remove id)) request steps response = NodeCall Call.remove id steps response
ByRoute (Ok (drain id)) request steps response = NodeCall Call.drain id steps response
ByRoute (Ok (beat id)) request steps response = Beats id (body_of request) steps response

abbrev pub route : Request → Result Route RouteFault
route request = route_of request.0.method request.0.target

-- the steps of a request, and its response
unfoldable pub Script : Request → List Step → Response → Type 0
Script request steps response = ByRoute (route request) request steps response

-- ---- out of memory after which a script does not go on

-- at a step, by the route
abbrev pub StepLacks : Result Route RouteFault → Request → List Step → Type 0
StepLacks (Err fault) request steps = ⊥
StepLacks (Ok new_session) request steps = EnqueueLacks (body_of request) steps
StepLacks (Ok (delete_session id)) request steps = DeleteLacks id steps
StepLacks (Ok (relay id target)) request steps = RelayLacks (relayed request target) id steps
StepLacks (Ok status) request steps = CallLacks Call.view steps
StepLacks (Ok queue) request steps = CallLacks Call.view steps
StepLacks (Ok clear_queue) request steps = CallLacks Call.clear steps
StepLacks (Ok register) request steps = RegisterLacks (body_of request) steps
StepLacks (Ok (remove id)) request steps = NodeCallLacks Call.remove id steps
StepLacks (Ok (drain id)) request steps = NodeCallLacks Call.drain id steps
StepLacks (Ok (beat id)) request steps = BeatsLack id (body_of request) steps

-- The steps of a request that ended out of memory: before its first step, at a step, or behind all, where its response
-- could not be built, and what that calls for was done. No token is left.
pub data Lacks (request : Request) : List Step → Type 0 where
  before_all : Lacks request []
  at_step : {steps : List Step} → StepLacks (route request) request steps → Lacks request steps
  behind_all : (steps undone : List Step) (response : Response) → Script request steps response →
      Undoes response undone → Lacks request (steps ++ undone)
