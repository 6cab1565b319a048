-- A relay under way. The request that is passed on is that of the frame under way, with the target that is kept.
use Rattle.std.specs.Prelude.{◌≡◌, ℕ, Bool, List, [], ◌∷◌}
use Rattle.http_frames.specs.Frames.{Request}
use Rattle.grid_types.specs.Calls.{Call}
use Rattle.grid_outside.specs.declared.exchange.Ask.{Ask}
use Rattle.grid_outside.specs.Exchanges.{Came}
use Rattle.node_client.specs.Steps.{Step, Exchanged}
use Rattle.conn_script.specs.declared.relaying.Relaying.{Relaying}
use Rattle.conn_script.specs.declared.relaying.Relaying.TheVariants as relaying
use Rattle.conn_script.specs.declared.turn.Turn.{Turn}
use Rattle.conn_script.specs.declared.turn.Run.{Run}
use Rattle.conn_script.specs.declared.turn.Run.TheVariants as run
use Rattle.conn_script.specs.declared.wants.HubAnswer.{HubAnswer}
use Rattle.conn_script.specs.Responses.{Response}
use Rattle.conn_script.specs.Relay.{relayed, AfterTouch, AfterFound, FindsNode, ExchangeLacks, TouchLacks, RelayLacks}
use Rattle.conn_script.specs.Wanted.{Wanted, to_call, to_ask, call_step}
use Rattle.conn_script.specs.Turns.{Turns, Completes, Stops}

-- what is wanted there
abbrev pub RelayWants : Request → Relaying → Wanted → Type 0
RelayWants f (relaying.Lookup id target) w = w ≡ to_call (Call.lookup id)
RelayWants f (relaying.LookingUp id target) w = w ≡ to_call (Call.lookup id)
RelayWants f (relaying.Touch id b address target) w = w ≡ to_call (Call.touch id b)
RelayWants f (relaying.Touching id b address target) w = w ≡ to_call (Call.touch id b)
RelayWants f (relaying.Exchange address target) w = w ≡ to_ask address (relayed f target)

-- what goes on from there
abbrev pub RelayFollows : Request → Relaying → List Step → Response → Type 0
RelayFollows f (relaying.Lookup id target) more response = FindsNode (relayed f target) id more response
RelayFollows f (relaying.LookingUp id target) more response = FindsNode (relayed f target) id more response
RelayFollows f (relaying.Touch id b address target) more response = AfterFound (relayed f target) id address b more response
RelayFollows f (relaying.Touching id b address target) more response = AfterFound (relayed f target) id address b more response
RelayFollows f (relaying.Exchange address target) more response = AfterTouch (relayed f target) address more response

-- what of it may stand where memory was wanted
abbrev pub RelayStops : Request → Relaying → List Step → Type 0
RelayStops f (relaying.Lookup id target) more = RelayLacks (relayed f target) id more
RelayStops f (relaying.LookingUp id target) more = RelayLacks (relayed f target) id more
RelayStops f (relaying.Touch id b address target) more = TouchLacks (relayed f target) id address b more
RelayStops f (relaying.Touching id b address target) more = TouchLacks (relayed f target) id address b more
RelayStops f (relaying.Exchange address target) more = ExchangeLacks (relayed f target) address more

-- a run that goes on as a relay
abbrev pub RelaysOn : Request → Run → Completes → Stops → Type 0
RelaysOn f (run.Relaying r) completes stops =
    (w : Wanted) × RelayWants f r w × ((more : List Step) (response : Response) → RelayFollows f r more response → completes more response)
    × ((more : List Step) → RelayStops f r more → stops more)
RelaysOn f r completes stops = ⊥

-- ---- what each answer leads to

abbrev pub FindTurns : List ℕ → List ℕ → HubAnswer → Turn → Bool → Type 0
FindTurns id target answer turn close =
    (f : Request) (at : ℕ) → Turns (RelaysOn f) (FindsNode (relayed f target) id) (RelayLacks (relayed f target) id) (call_step answer (Call.lookup id) at ∷ []) close turn

abbrev pub TouchTurns : List ℕ → ℕ → List ℕ → List ℕ → HubAnswer → Turn → Bool → Type 0
TouchTurns id b address target answer turn close =
    (f : Request) (at : ℕ) → Turns (RelaysOn f) (AfterFound (relayed f target) id address b) (TouchLacks (relayed f target) id address b)
    (call_step answer (Call.touch id b) at ∷ []) close turn

abbrev pub ExchangeTurns : Came → Turn → Bool → Type 0
ExchangeTurns came turn close =
    (f : Request) (ask : Ask) (address : List ℕ) → Turns (RelaysOn f) (AfterTouch ask address) (ExchangeLacks ask address) (Exchanged address ask came ∷ []) close turn
