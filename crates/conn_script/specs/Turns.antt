-- What an answer leads to in the script of a request.
use Rattle.std.specs.Prelude.{◌≡◌, ◌⊎◌, ℕ, Bool, false, List, [], ◌++◌, Result, Ok, Err}
use Rattle.grid_types.specs.declared.text.NoMemory.{NoMemory}
use Rattle.grid_types.specs.declared.capabilities.Cap.{Cap}
use Rattle.node_client.specs.Steps.{Step, met_want}
use Rattle.conn_script.specs.Undo.{Undoes}
use Rattle.conn_script.specs.declared.turn.Turn.{Turn}
use Rattle.conn_script.specs.declared.turn.Turn.TheVariants as turn
use Rattle.conn_script.specs.declared.turn.Run.{Run}
use Rattle.conn_script.specs.declared.wants.HubAnswer.{HubAnswer}
use Rattle.conn_script.specs.declared.wants.HubAnswer.TheVariants as answers
use Rattle.conn_script.specs.Responses.{Response, created, hub_spent, bytes_of, is_last, spent_text}

abbrev pub responded : Result (List ℕ) NoMemory → Turn
responded (Ok bytes) = turn.Respond bytes
responded (Err e) = turn.Lacks

abbrev pub responded_last : Result (List ℕ) NoMemory → Bool → Turn
responded_last (Ok bytes) short = turn.RespondLast bytes short
responded_last (Err e) short = turn.Lacks

-- the last response, after steps none of which was out of memory, or none where it is out of memory
abbrev pub IsSpentTurn : Turn → Type 0
IsSpentTurn (turn.Go run short) = ⊥
IsSpentTurn (turn.Respond bytes) = ⊥
IsSpentTurn (turn.RespondLast bytes short) = (bytes ≡ spent_text) × (short ≡ false)
IsSpentTurn (turn.Created bytes session binding) = ⊥
IsSpentTurn (turn.Undo session binding) = ⊥
IsSpentTurn turn.Lacks = Unit {0}

-- what comes of an answer that is none of the call's own
abbrev pub IsUnanswered : HubAnswer → Turn → Type 0
IsUnanswered (answers.Spent s) t = IsSpentTurn t
IsUnanswered answer t = t ≡ turn.Lacks

-- what completes a script, and what of it may stand where memory was wanted
abbrev pub Completes : Type 1
Completes = List Step → Response → Type 0

abbrev pub Stops : Type 1
Stops = List Step → Type 0

-- The script that `completes` and `stops` complete has made these steps, and is over or goes on with another run: its response is
-- built, or could not be built, or memory was wanted at a step. It is told whether it goes on after it was out of memory.
abbrev pub Turns : (Run → Completes → Stops → Type 0) → Completes → Stops → List Step → Bool → Turn → Type 0
Turns GoesOn completes stops made close (turn.Go run short) =
    GoesOn run (λ more response. completes (made ++ more) response) (λ more. stops (made ++ more)) × (short ≡ met_want made)
Turns GoesOn completes stops made close (turn.Respond bytes) =
    (response : Response) × completes made response × Undoes response [] × (is_last response ≡ false) × (bytes ≡ bytes_of response close) × (met_want made ≡ false)
Turns GoesOn completes stops made close (turn.RespondLast bytes short) = completes made hub_spent × (bytes ≡ spent_text) × (short ≡ met_want made)
Turns GoesOn completes stops made close (turn.Created bytes session binding) =
    (caps : List Cap) × completes made (created session caps binding) × (bytes ≡ bytes_of (created session caps binding) close) × (met_want made ≡ false)
Turns GoesOn completes stops made close (turn.Undo session binding) = (caps : List Cap) × completes made (created session caps binding)
Turns GoesOn completes stops made close turn.Lacks = stops made ⊎ ((response : Response) × completes made response × Undoes response [])
