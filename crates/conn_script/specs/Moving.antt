-- How an answer moves a run on, whatever its script is.
use Rattle.std.specs.Prelude.{◌≡◌, ℕ, Bool, true, false, ◌&&◌, ◌||◌, List, [], ◌++◌, Option, is_some}
use Rattle.http_frames.specs.Frames.{Request}
use Rattle.node_client.specs.declared.carry.Carry.{Carry}
use Rattle.node_client.specs.Carrying.{Stands, awaited, held, is_fresh}
use Rattle.node_client.specs.Held.{Token}
use Rattle.node_client.specs.Steps.{Step}
use Rattle.conn_script.specs.declared.calling.Calling.{Calling}
use Rattle.conn_script.specs.declared.calling.Calling.TheVariants as calling
use Rattle.conn_script.specs.declared.deleting.Deleting.{Deleting}
use Rattle.conn_script.specs.declared.deleting.Deleting.TheVariants as deleting
use Rattle.conn_script.specs.declared.relaying.Relaying.{Relaying}
use Rattle.conn_script.specs.declared.relaying.Relaying.TheVariants as relaying
use Rattle.conn_script.specs.declared.creating.Creating.{Creating}
use Rattle.conn_script.specs.declared.creating.Creating.TheVariants as creating
use Rattle.conn_script.specs.declared.turn.Run.{Run}
use Rattle.conn_script.specs.declared.turn.Run.TheVariants as run
use Rattle.conn_script.specs.declared.turn.Turn.{Turn}
use Rattle.conn_script.specs.declared.turn.Turn.TheVariants as turn
use Rattle.conn_script.specs.declared.wants.Answer.{Answer}
use Rattle.conn_script.specs.declared.wants.Want.{Want}
use Rattle.conn_script.specs.Creating.{Aim, aim_steps, want_of}
use Rattle.conn_script.specs.Wanted.{Wanted, Shows, IsScriptWant, Readies, Fits, Made, told_tokens, finds_spent}
use Rattle.conn_script.specs.declared.request.Whole.{Whole}
use Rattle.conn_script.specs.Asking.{IsOf}
use Rattle.http_frames.specs.declared.writing.NodeRequest.{NodeRequest}
use Rattle.grid_types.specs.Tokens.{Reservation}
use Rattle.grid_outside.specs.Exchanges.{ask_of}
use Rattle.node_client.specs.Places.{Place, wanted_at}
use Rattle.conn_script.specs.Relay.{relayed}
use Rattle.conn_script.specs.Work.{RunsLess, LeavesLittle}
use Rattle.conn_script.specs.Responses.{left}
use Rattle.conn_script.specs.declared.undoing.Undoing.{Undoing}
use Rattle.conn_script.specs.Undo.{UndoLeads, WaitsBehind, undo_goes_on, undo_tokens}
use Rattle.conn_script.specs.Running.{RunWants, RunFollows, RunStops, RunTurns, run_tokens, run_awaits, run_held, start_awaits, start_held}

-- ---- what a run that goes on may be asked, and which tokens it holds

-- a start that is not over and of which no call waits for its answer
abbrev pub start_goes_on : Carry → Bool
start_goes_on carry = is_fresh carry && (is_some (awaited carry) || is_some (held carry))

abbrev pub call_is_fresh : Calling → Bool
call_is_fresh (calling.Ask call asked) = true
call_is_fresh (calling.Asked asked) = false

abbrev pub delete_is_fresh : Deleting → Bool
delete_is_fresh (deleting.LookingUp id) = false
delete_is_fresh (deleting.Ending id b) = false
delete_is_fresh (deleting.Freeing q) = false
delete_is_fresh d = true

abbrev pub relay_is_fresh : Relaying → Bool
relay_is_fresh (relaying.LookingUp id target) = false
relay_is_fresh (relaying.Touching id b address target) = false
relay_is_fresh r = true

abbrev pub create_is_fresh : Creating → Bool
create_is_fresh creating.Enqueuing = false
create_is_fresh (creating.Polling n) = false
create_is_fresh (creating.Starting t carry) = start_goes_on carry
create_is_fresh c = true

-- it may be asked what it wants: no call that was handed out waits for its answer
abbrev pub run_is_fresh : Run → Bool
run_is_fresh (run.Calling c) = call_is_fresh c
run_is_fresh (run.Deleting d) = delete_is_fresh d
run_is_fresh (run.Relaying r) = relay_is_fresh r
run_is_fresh (run.Creating c) = create_is_fresh c

abbrev pub turn_is_fresh : Turn → Bool
turn_is_fresh (turn.Go next short) = run_is_fresh next
turn_is_fresh t = true

abbrev pub turn_tokens : Turn → List Token
turn_tokens (turn.Go next short) = run_tokens next
turn_tokens t = []

-- it may be asked what it wants, and holds these tokens
pub record IsReady (next : Turn) (tokens : List Token) : Type 0 where
  pub fresh : turn_is_fresh next ≡ true
  pub holds : turn_tokens next ≡ tokens

-- ---- the answer to what is wanted

-- Whatever the run wanted and whatever steps may have been made of it, the script is over or goes on, and less is left to do.
pub record Moves (old : Run) (answer : Answer) (close : Bool) (next : Turn) : Type 0 where
  pub fresh : turn_is_fresh next ≡ true
  pub keeps : finds_spent answer ≡ false → turn_tokens next ≡ told_tokens answer ++ run_tokens old
  pub void : finds_spent answer ≡ true → turn_tokens next ≡ []
  pub leads : (own : Option (List ℕ)) (f : Request) (aim : Aim) (w : Wanted) (made : List Step) → RunWants f old aim w → Fits answer w →
      Made own answer w made →
      RunTurns f (aim_steps aim) (λ more response. RunFollows f old aim w more response) (λ more. RunStops f old w more) made close next
  pub less : RunsLess old answer next

-- The client has left while its New Session waits: what is done then holds the ticket, and with it the script is one without a
-- response.
pub record Leaves (old : Run) (next : Undoing) : Type 0 where
  pub fresh : undo_goes_on next ≡ true
  pub keeps : undo_tokens next ≡ run_tokens old
  pub leads : (f : Request) (aim : Aim) (w : Wanted) → RunWants f old aim w →
      UndoLeads next (λ more. RunFollows f old aim w more left)
  pub waits : WaitsBehind next []
  pub less : LeavesLittle old next

-- what is wanted, for the request under way
pub record AsksFor (r : Run) (whole : Whole) (want : Want) : Type 0 where
  pub readies : Readies want (run_awaits r) (run_held r)
  pub of_script : IsScriptWant want
  pub shows : (f : Request) (aim : Aim) (w : Wanted) → IsOf whole f → RunWants f r aim w → Shows want w

-- what is wanted of which the parts of the request tell nothing
pub record AsksForItself (r : Run) (want : Want) : Type 0 where
  pub readies : Readies want (run_awaits r) (run_held r)
  pub of_script : IsScriptWant want
  pub shows : (f : Request) (aim : Aim) (w : Wanted) → RunWants f r aim w → Shows want w

-- the client's request, as it is passed on to this target
abbrev pub IsPassedOn : Whole → List ℕ → NodeRequest → Type 0
IsPassedOn whole target request = (f : Request) → IsOf whole f → ask_of request ≡ relayed f target

-- what a start wants
pub record IsStartWant (carry : Carry) (want : Want) : Type 0 where
  pub readies : Readies want (start_awaits (awaited carry)) (start_held (is_fresh carry) (held carry))
  pub of_script : IsScriptWant want
  pub shows : (r : Reservation) (place : Place) (so_far : List Step) (w : Wanted) → Stands carry r place so_far → want_of (wanted_at r place) w → Shows want w
