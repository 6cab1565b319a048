-- A Delete Session under way.
use Rattle.std.specs.Prelude.{◌≡◌, ℕ, Bool, true, false, List, [], ◌∷◌, Option, None, Some, Ok, Err, codes}
use Rattle.grid_types.specs.Tokens.{Closing}
use Rattle.grid_types.specs.Calls.{Call}
use Rattle.grid_outside.specs.declared.exchange.Reply.TheVariants as node
use Rattle.grid_outside.specs.declared.exchange.ExchangeFault.TheVariants as fault
use Rattle.grid_outside.specs.Exchanges.{Came}
use Rattle.node_client.specs.Asks.{with_path}
use Rattle.node_client.specs.Paths.{path_text}
use Rattle.node_client.specs.Steps.{Step, Exchanged}
use Rattle.conn_script.specs.declared.deleting.Deleting.{Deleting}
use Rattle.conn_script.specs.declared.deleting.Deleting.TheVariants as deleting
use Rattle.conn_script.specs.declared.deleting.Quitted.{Quitted}
use Rattle.conn_script.specs.declared.deleting.Quitted.TheVariants as quitted
use Rattle.conn_script.specs.declared.turn.Turn.{Turn}
use Rattle.conn_script.specs.declared.turn.Run.{Run}
use Rattle.conn_script.specs.declared.turn.Run.TheVariants as run
use Rattle.conn_script.specs.declared.wants.HubAnswer.{HubAnswer}
use Rattle.conn_script.specs.Responses.{Response, success, bytes_of}
use Rattle.conn_script.specs.Messages.{node_unreachable, node_not_http}
use Rattle.conn_script.specs.DeleteSession.{AfterQuit, AfterEnd, AfterLookup, AsksWhere, FreesLast, QuitLacks, EndLacks, DeleteLacks}
use Rattle.conn_script.specs.Wanted.{Wanted, to_call, to_ask, call_step}
use Rattle.conn_script.specs.Turns.{Turns, Completes, Stops, IsSpentTurn}
use Rattle.conn_script.specs.declared.turn.Turn.TheVariants as turn

abbrev pub quitted_of : Came → Quitted
quitted_of (Ok (node.Http reply)) = quitted.Http
quitted_of (Ok (node.NotHttp bytes)) = quitted.NotHttp
quitted_of (Err fault.Unreachable) = quitted.Unreachable
quitted_of (Err fault.Memory) = quitted.Memory

-- the response that is kept for when the slot is freed
abbrev pub kept_response : Quitted → Option Response
kept_response quitted.Http = Some (success (codes "null"))
kept_response quitted.NotHttp = Some node_not_http
kept_response quitted.Unreachable = Some node_unreachable
kept_response quitted.Memory = None

-- the bytes are those of the response that is kept
abbrev pub IsKept : Option Response → List ℕ → Bool → Type 0
IsKept None bytes close = ⊥
IsKept (Some response) bytes close = bytes ≡ bytes_of response close

-- the slot is freed, and no response follows
abbrev pub FreesLacking : Quitted → Closing → List Step → Type 0
FreesLacking quitted.Memory c more = FreesLast c more
FreesLacking q c more = ⊥

abbrev pub is_lacking : Quitted → Bool
is_lacking quitted.Memory = true
is_lacking q = false

-- what a hub that is spent leads to there: out of memory came first
abbrev pub IsFreeSpent : Quitted → Turn → Type 0
IsFreeSpent quitted.Memory t = t ≡ turn.Lacks
IsFreeSpent q t = IsSpentTurn t

-- what is wanted there
abbrev pub DeleteWants : Deleting → Wanted → Type 0
DeleteWants (deleting.Lookup id) w = w ≡ to_call (Call.lookup id)
DeleteWants (deleting.LookingUp id) w = w ≡ to_call (Call.lookup id)
DeleteWants (deleting.End id b) w = w ≡ to_call (Call.end id b)
DeleteWants (deleting.Ending id b) w = w ≡ to_call (Call.end id b)
DeleteWants (deleting.Quit c path) w = w ≡ to_ask c.address (with_path (path_text path))
DeleteWants (deleting.Free c q) w = w ≡ to_call (Call.freed c)
DeleteWants (deleting.Freeing q) w = (c : Closing) × (w ≡ to_call (Call.freed c))

-- what goes on from there
abbrev pub FreedFollows : Quitted → Wanted → List Step → Response → Type 0
FreedFollows q (to_call (Call.freed c)) more response = AfterQuit c (kept_response q) more response
FreedFollows q w more response = ⊥

abbrev pub DeleteFollows : Deleting → Wanted → List Step → Response → Type 0
DeleteFollows (deleting.Lookup id) w more response = AsksWhere id more response
DeleteFollows (deleting.LookingUp id) w more response = AsksWhere id more response
DeleteFollows (deleting.End id b) w more response = AfterLookup id b more response
DeleteFollows (deleting.Ending id b) w more response = AfterLookup id b more response
DeleteFollows (deleting.Quit c path) w more response = AfterEnd (path_text path) c more response
DeleteFollows (deleting.Free c q) w more response = AfterQuit c (kept_response q) more response
DeleteFollows (deleting.Freeing q) w more response = FreedFollows q w more response

-- what of it may stand where memory was wanted
abbrev pub FreedStops : Quitted → Wanted → List Step → Type 0
FreedStops q (to_call (Call.freed c)) more = FreesLacking q c more
FreedStops q w more = ⊥

abbrev pub DeleteStops : Deleting → Wanted → List Step → Type 0
DeleteStops (deleting.Lookup id) w more = DeleteLacks id more
DeleteStops (deleting.LookingUp id) w more = DeleteLacks id more
DeleteStops (deleting.End id b) w more = EndLacks id b more
DeleteStops (deleting.Ending id b) w more = EndLacks id b more
DeleteStops (deleting.Quit c path) w more = QuitLacks (path_text path) c more
DeleteStops (deleting.Free c q) w more = FreesLacking q c more
DeleteStops (deleting.Freeing q) w more = FreedStops q w more

-- a run that goes on as a Delete Session
abbrev pub DeletesOn : Run → Completes → Stops → Type 0
DeletesOn (run.Deleting d) completes stops =
    (w : Wanted) × DeleteWants d w × ((more : List Step) (response : Response) → DeleteFollows d w more response → completes more response)
    × ((more : List Step) → DeleteStops d w more → stops more)
DeletesOn r completes stops = ⊥

-- ---- what each answer leads to

abbrev pub LookupTurns : List ℕ → HubAnswer → Turn → Bool → Type 0
LookupTurns id answer turn close = (at : ℕ) → Turns DeletesOn (AsksWhere id) (DeleteLacks id) (call_step answer (Call.lookup id) at ∷ []) close turn

abbrev pub EndTurns : List ℕ → ℕ → HubAnswer → Turn → Bool → Type 0
EndTurns id b answer turn close = (at : ℕ) → Turns DeletesOn (AfterLookup id b) (EndLacks id b) (call_step answer (Call.end id b) at ∷ []) close turn

abbrev pub QuitTurns : Closing → Came → Turn → Type 0
QuitTurns c came turn =
    (close : Bool) (path : List ℕ) → Turns DeletesOn (AfterEnd path c) (QuitLacks path c) (Exchanged c.address (with_path path) came ∷ []) close turn

abbrev pub FreeTurns : Quitted → HubAnswer → Turn → Bool → Type 0
FreeTurns q answer turn close =
    (c : Closing) (at : ℕ) → Turns DeletesOn (AfterQuit c (kept_response q)) (FreesLacking q c) (call_step answer (Call.freed c) at ∷ []) close turn
