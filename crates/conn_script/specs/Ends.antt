-- How a session is ended that was created and that its client does not have.
use Rattle.std.specs.Prelude.{ℕ, List, [], ◌∷◌, None, Some}
use Rattle.grid_types.specs.Tokens.{Closing}
use Rattle.grid_types.specs.Calls.{Call, Reply}
use Rattle.grid_outside.specs.Exchanges.{Came}
use Rattle.node_client.specs.Asks.{with_path, session_path}
use Rattle.node_client.specs.Steps.{Step, Called, Spent, Exchanged}
use Rattle.conn_script.specs.DeleteSession.{FreesLast}

-- its node is asked to end it, whatever comes of that, and its slot is freed
pub data EndsAtNode (path : List ℕ) (c : Closing) : List Step → Type 0 where
  quits : {steps : List Step} (what : Came) → FreesLast c steps → EndsAtNode path c (Exchanged c.address (with_path path) what ∷ steps)

-- The end of its binding, and after Ended the rest. Where there is no such session, no memory, or the hub is spent, nothing more.
pub data EndsCreated (session : List ℕ) (binding : ℕ) : List Step → Type 0 where
  ends : {steps : List Step} (at : ℕ) (c : Closing) → EndsAtNode (session_path session) c steps →
      EndsCreated session binding (Called (Call.end session binding) at (Some (Reply.ended c)) ∷ steps)
  is_gone : (at : ℕ) → EndsCreated session binding (Called (Call.end session binding) at (Some Reply.no_session) ∷ [])
  stays : (at : ℕ) → EndsCreated session binding (Called (Call.end session binding) at None ∷ [])
  end_spent : (at : ℕ) → EndsCreated session binding (Spent (Call.end session binding) at ∷ [])
