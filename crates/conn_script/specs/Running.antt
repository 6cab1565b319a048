-- A script under way: what it wants, and what goes on from there.
use Rattle.std.specs.Prelude.{◌≡◌, ◌⊎◌, Bool, true, false, List, [], ◌∷◌, ◌++◌, Option, None, Some}
use Rattle.http_frames.specs.Frames.{Request}
use Rattle.grid_types.specs.Calls.{Call}
use Rattle.grid_types.specs.declared.capabilities.Cap.{Cap}
use Rattle.node_client.specs.Steps.{Step, met_want, gives_up}
use Rattle.conn_script.specs.Undo.{Undoes}
use Rattle.conn_script.specs.declared.calling.Calling.{Calling}
use Rattle.conn_script.specs.declared.calling.Calling.TheVariants as calling
use Rattle.conn_script.specs.declared.deleting.Deleting.{Deleting}
use Rattle.conn_script.specs.declared.deleting.Deleting.TheVariants as deleting
use Rattle.conn_script.specs.declared.relaying.Relaying.{Relaying}
use Rattle.conn_script.specs.declared.relaying.Relaying.TheVariants as relaying
use Rattle.conn_script.specs.declared.turn.Run.{Run}
use Rattle.conn_script.specs.declared.turn.Run.TheVariants as run
use Rattle.conn_script.specs.declared.wants.HubCall.{HubCall}
use Rattle.conn_script.specs.Responses.{Response, created, hub_spent, bytes_of, is_last, spent_text}
use Rattle.conn_script.specs.OneCall.{OneCall, CallLacks}
use Rattle.conn_script.specs.Wanted.{Wanted, to_call, Kind, kind_of, call_of, is_rightful, call_tokens, Awaited, answer_to, came, wait_end, nothing}
use Rattle.conn_script.specs.Turns.{Completes, Stops}
use Rattle.conn_script.specs.Calling.{kind_asked, respond_of}
use Rattle.conn_script.specs.Deleting.{DeleteWants, DeleteFollows, DeleteStops}
use Rattle.conn_script.specs.Relaying.{RelayWants, RelayFollows, RelayStops}
use Rattle.conn_script.specs.declared.creating.Creating.{Creating}
use Rattle.conn_script.specs.declared.creating.Creating.TheVariants as creating
use Rattle.conn_script.specs.declared.turn.Turn.{Turn}
use Rattle.conn_script.specs.declared.turn.Turn.TheVariants as turn
use Rattle.grid_types.specs.Tokens.{Ticket}
use Rattle.node_client.specs.declared.carry.Carry.{Carry}
use Rattle.node_client.specs.Carrying as carrying
use Rattle.node_client.specs.Carrying.{awaited, held, is_fresh}
use Rattle.node_client.specs.Held.{Token, of_closing, of_ticket, carry_tokens}
use Rattle.conn_script.specs.Work.{KeepsWork}
use Rattle.conn_script.specs.Creating.{Aim, no_start, aim_steps, kind_in, kind_in_some, CreateWants, CreateFollows, CreateStops}

-- ---- one call

abbrev pub CallWants : Calling → Wanted → Type 0
CallWants (calling.Ask call asked) w =
    (w ≡ to_call (call_of call)) × (kind_of (call_of call) ≡ kind_asked asked) × (gives_up (call_of call) ≡ false)
    × (is_rightful (call_of call) ≡ true)
CallWants (calling.Asked asked) w =
    (call : Call) × (w ≡ to_call call) × (kind_of call ≡ kind_asked asked) × (gives_up call ≡ false) × (is_rightful call ≡ true)

abbrev pub AskedFollows : Calling → Wanted → List Step → Response → Type 0
AskedFollows (calling.Ask call asked) w more response = OneCall (call_of call) (respond_of asked) more response
AskedFollows (calling.Asked asked) (to_call call) more response = OneCall call (respond_of asked) more response
AskedFollows (calling.Asked asked) w more response = ⊥

abbrev pub AskedStops : Calling → Wanted → List Step → Type 0
AskedStops (calling.Ask call asked) w more = CallLacks (call_of call) more
AskedStops (calling.Asked asked) (to_call call) more = CallLacks call more
AskedStops (calling.Asked asked) w more = ⊥

-- ---- any script, for the request under way

abbrev pub RunWants : Request → Run → Aim → Wanted → Type 0
RunWants f (run.Calling c) aim w = (aim ≡ no_start) × CallWants c w
RunWants f (run.Deleting d) aim w = (aim ≡ no_start) × DeleteWants d w
RunWants f (run.Relaying r) aim w = (aim ≡ no_start) × RelayWants f r w
RunWants f (run.Creating c) aim w = CreateWants c aim w

abbrev pub RunFollows : Request → Run → Aim → Wanted → List Step → Response → Type 0
RunFollows f (run.Calling c) aim w more response = AskedFollows c w more response
RunFollows f (run.Deleting d) aim w more response = DeleteFollows d w more response
RunFollows f (run.Relaying r) aim w more response = RelayFollows f r more response
RunFollows f (run.Creating c) aim w more response = CreateFollows c aim w more response

abbrev pub RunStops : Request → Run → Wanted → List Step → Type 0
RunStops f (run.Calling c) w more = AskedStops c w more
RunStops f (run.Deleting d) w more = DeleteStops d w more
RunStops f (run.Relaying r) w more = RelayStops f r more
RunStops f (run.Creating c) w more = CreateStops c w more

-- the run wants something, and whatever goes on from there completes; of a start no step is made
abbrev pub RunsOn : Request → Run → Completes → Stops → Type 0
RunsOn f r completes stops =
    (aim : Aim) × (w : Wanted) × RunWants f r aim w × (aim_steps aim ≡ [])
    × ((more : List Step) (response : Response) → RunFollows f r aim w more response → completes more response)
    × ((more : List Step) → RunStops f r w more → stops more)

-- ---- what an answer leads to in any script, with the steps of a start that was under way before it

-- The steps that are settled are those of which `short` is told: all but those of a start that goes on.
abbrev pub RunTurns : Request → List Step → Completes → Stops → List Step → Bool → Turn → Type 0
RunTurns f so_far completes stops made close (turn.Go next short) =
    (aim : Aim) × (w : Wanted) × RunWants f next aim w
    × ((settled : List Step) × (so_far ++ made ≡ settled ++ aim_steps aim) × (short ≡ met_want settled))
    × ((more : List Step) (response : Response) → RunFollows f next aim w more response → completes (made ++ more) response)
    × ((more : List Step) → RunStops f next w more → stops (made ++ more))
RunTurns f so_far completes stops made close (turn.Respond bytes) =
    (response : Response) × completes made response × Undoes response [] × (is_last response ≡ false) × (bytes ≡ bytes_of response close) × (met_want (so_far ++ made) ≡ false)
RunTurns f so_far completes stops made close (turn.RespondLast bytes short) =
    completes made hub_spent × (bytes ≡ spent_text) × (short ≡ met_want (so_far ++ made))
RunTurns f so_far completes stops made close (turn.Created bytes session binding) =
    (caps : List Cap) × completes made (created session caps binding) × (bytes ≡ bytes_of (created session caps binding) close)
    × (met_want (so_far ++ made) ≡ false)
RunTurns f so_far completes stops made close (turn.Undo session binding) = (caps : List Cap) × completes made (created session caps binding)
RunTurns f so_far completes stops made close turn.Lacks = stops made ⊎ ((response : Response) × completes made response × Undoes response [])

-- ---- the tokens that it holds, those of a call that is to be handed out among them

abbrev pub delete_tokens : Deleting → List Token
delete_tokens (deleting.Quit c path) = of_closing c ∷ []
delete_tokens (deleting.Free c q) = of_closing c ∷ []
delete_tokens d = []

abbrev pub asked_tokens : Calling → List Token
asked_tokens (calling.Ask call asked) = call_tokens (call_of call)
asked_tokens (calling.Asked asked) = []

abbrev pub create_tokens : Creating → List Token
create_tokens (creating.Poll t) = of_ticket t ∷ []
create_tokens (creating.Pausing t) = of_ticket t ∷ []
create_tokens (creating.Starting t carry) = carry_tokens carry ++ of_ticket t ∷ []
create_tokens c = []

abbrev pub run_tokens : Run → List Token
run_tokens (run.Calling c) = asked_tokens c
run_tokens (run.Deleting d) = delete_tokens d
run_tokens (run.Relaying r) = []
run_tokens (run.Creating c) = create_tokens c

-- ---- what may be fed, and which call is there to be handed out

abbrev pub call_awaits : Calling → Awaited
call_awaits (calling.Ask call asked) = nothing
call_awaits (calling.Asked asked) = answer_to (kind_asked asked)

abbrev pub delete_awaits : Deleting → Awaited
delete_awaits (deleting.LookingUp id) = answer_to Kind.lookup
delete_awaits (deleting.Ending id b) = answer_to Kind.end
delete_awaits (deleting.Quit c path) = came
delete_awaits (deleting.Freeing q) = answer_to Kind.freed
delete_awaits d = nothing

abbrev pub relay_awaits : Relaying → Awaited
relay_awaits (relaying.LookingUp id target) = answer_to Kind.lookup
relay_awaits (relaying.Touching id b address target) = answer_to Kind.touch
relay_awaits (relaying.Exchange address target) = came
relay_awaits r = nothing

abbrev pub start_awaits : Option carrying.Kind → Awaited
start_awaits None = nothing
start_awaits (Some carrying.Exchange) = came
start_awaits (Some k) = answer_to (kind_in k)

abbrev pub create_awaits : Creating → Awaited
create_awaits creating.Enqueuing = answer_to Kind.enqueue
create_awaits (creating.Polling n) = answer_to Kind.poll
create_awaits (creating.Pausing t) = wait_end
create_awaits (creating.Starting t carry) = start_awaits (awaited carry)
create_awaits c = nothing

abbrev pub run_awaits : Run → Awaited
run_awaits (run.Calling c) = call_awaits c
run_awaits (run.Deleting d) = delete_awaits d
run_awaits (run.Relaying r) = relay_awaits r
run_awaits (run.Creating c) = create_awaits c

abbrev pub call_held : Calling → Option Kind
call_held (calling.Ask call asked) = Some (kind_of (call_of call))
call_held (calling.Asked asked) = None

abbrev pub delete_held : Deleting → Option Kind
delete_held (deleting.Lookup id) = Some Kind.lookup
delete_held (deleting.End id b) = Some Kind.end
delete_held (deleting.Free c q) = Some Kind.freed
delete_held d = None

abbrev pub relay_held : Relaying → Option Kind
relay_held (relaying.Lookup id target) = Some Kind.lookup
relay_held (relaying.Touch id b address target) = Some Kind.touch
relay_held r = None

abbrev pub start_held : Bool → Option carrying.Kind → Option Kind
start_held false kind = None
start_held true kind = kind_in_some kind

abbrev pub create_held : Creating → Option Kind
create_held (creating.Enqueue choices) = Some Kind.enqueue
create_held (creating.Poll t) = Some Kind.poll
create_held (creating.Starting t carry) = start_held (is_fresh carry) (held carry)
create_held c = None

abbrev pub run_held : Run → Option Kind
run_held (run.Calling c) = call_held c
run_held (run.Deleting d) = delete_held d
run_held (run.Relaying r) = relay_held r
run_held (run.Creating c) = create_held c

-- a call is handed out with its tokens, and what is wanted and what goes on stay the same
pub record IsTaken (old : Run) (call : HubCall) (new : Run) : Type 0 where
  pub waits : (f : Request) (aim : Aim) (w : Wanted) → RunWants f old aim w → run_awaits new ≡ answer_to (kind_of (call_of call))
  pub keeps : run_tokens old ≡ call_tokens (call_of call) ++ run_tokens new
  pub wants : (f : Request) (aim : Aim) (w : Wanted) → RunWants f old aim w → (w ≡ to_call (call_of call)) × RunWants f new aim w
  pub leads : (f : Request) (aim : Aim) (w : Wanted) (more : List Step) (response : Response) → RunWants f old aim w → RunFollows f new aim w more response →
      RunFollows f old aim w more response
  pub stops : (f : Request) (w : Wanted) (more : List Step) → RunStops f new w more → w ≡ to_call (call_of call) → RunStops f old w more
  pub work_is : KeepsWork old new

-- the call of a start is handed out
abbrev pub IsTakenOfStart : Ticket → Carry → HubCall → Run → Type 0
IsTakenOfStart t carry call new = IsTaken (run.Creating (creating.Starting t carry)) call new
