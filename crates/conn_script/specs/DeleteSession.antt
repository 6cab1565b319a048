-- The end of a session, as its client asks for it (WebDriver §8.2).
use Rattle.std.specs.Prelude.{◌≡◌, ℕ, true, false, List, [], ◌∷◌, Option, None, Some, Ok, Err, codes}
use Rattle.grid_types.specs.declared.entry.Found.TheVariants as found
use Rattle.grid_types.specs.declared.names.SlotId.{SlotId}
use Rattle.grid_types.specs.Names.{is_session_name}
use Rattle.grid_types.specs.Tokens.{Closing}
use Rattle.grid_types.specs.Calls.{Call, Reply}
use Rattle.grid_outside.specs.declared.exchange.Reply.TheVariants.{Http, NotHttp}
use Rattle.grid_outside.specs.declared.exchange.ExchangeFault.TheVariants.{Unreachable, Memory}
use Rattle.grid_outside.specs.Exchanges.{Came}
use Rattle.node_client.specs.Asks.{with_path, session_path}
use Rattle.node_client.specs.Steps.{Step, Called, Spent, Exchanged}
use Rattle.conn_script.specs.Responses.{Response, success, hub_spent}
use Rattle.conn_script.specs.Messages.{no_such_session, node_unreachable, node_not_http}

-- the response, by what came of the exchange with the node; none where that found no memory
abbrev pub quit_response : Came → Option Response
quit_response (Ok (Http reply)) = Some (success (codes "null"))
quit_response (Ok (NotHttp bytes)) = Some node_not_http
quit_response (Err Unreachable) = Some node_unreachable
quit_response (Err Memory) = None

-- the slot is freed
pub data AfterQuit (c : Closing) : Option Response → List Step → Response → Type 0 where
  freed : (response : Response) (at : ℕ) → AfterQuit c (Some response) (Called (Call.freed c) at (Some Reply.is_freed) ∷ []) response
  freed_spent : (response : Response) (at : ℕ) → AfterQuit c (Some response) (Spent (Call.freed c) at ∷ []) hub_spent

-- the session of this path has ended: its node is asked to end it too, and its slot is freed, whatever came of that
pub data AfterEnd (path : List ℕ) (c : Closing) : List Step → Response → Type 0 where
  asked : (came : Came) (steps : List Step) (response : Response) → AfterQuit c (quit_response came) steps response →
      AfterEnd path c (Exchanged c.address (with_path path) came ∷ steps) response

-- the session was found under this binding
pub data AfterLookup (session : List ℕ) (binding : ℕ) : List Step → Response → Type 0 where
  ended : (at : ℕ) (c : Closing) (steps : List Step) (response : Response) → AfterEnd (session_path session) c steps response →
      AfterLookup session binding (Called (Call.end session binding) at (Some (Reply.ended c)) ∷ steps) response
  not_ended : (at : ℕ) → AfterLookup session binding (Called (Call.end session binding) at (Some Reply.no_session) ∷ []) no_such_session
  end_spent : (at : ℕ) → AfterLookup session binding (Spent (Call.end session binding) at ∷ []) hub_spent

-- where the session runs is asked for
pub data AsksWhere (id : List ℕ) : List Step → Response → Type 0 where
  found_at : (at : ℕ) (slot : SlotId) (address : List ℕ) (binding : ℕ) (steps : List Step) (response : Response) → AfterLookup id binding steps response →
      AsksWhere id (Called (Call.lookup id) at (Some (Reply.found (found.At slot address binding))) ∷ steps) response
  not_found : (at : ℕ) → AsksWhere id (Called (Call.lookup id) at (Some (Reply.found found.NoSession)) ∷ []) no_such_session
  lookup_spent : (at : ℕ) → AsksWhere id (Spent (Call.lookup id) at ∷ []) hub_spent

-- the steps of a Delete Session for the session of this id, and its response; an id that names no session makes no call
pub data DeleteSession (id : List ℕ) : List Step → Response → Type 0 where
  no_name : is_session_name id ≡ false → DeleteSession id [] no_such_session
  named : (steps : List Step) (response : Response) → is_session_name id ≡ true → AsksWhere id steps response → DeleteSession id steps response

-- ---- where being out of memory ends the steps: the end found none; or the exchange did, and the slot was freed all the same

pub data FreesLast (c : Closing) : List Step → Type 0 where
  frees : (at : ℕ) → FreesLast c (Called (Call.freed c) at (Some Reply.is_freed) ∷ [])
  finds_spent : (at : ℕ) → FreesLast c (Spent (Call.freed c) at ∷ [])

pub data QuitLacks (path : List ℕ) (c : Closing) : List Step → Type 0 where
  not_sent : (steps : List Step) → FreesLast c steps → QuitLacks path c (Exchanged c.address (with_path path) (Err Memory) ∷ steps)

pub data EndLacks (session : List ℕ) (binding : ℕ) : List Step → Type 0 where
  end_lacks : (at : ℕ) → EndLacks session binding (Called (Call.end session binding) at None ∷ [])
  behind_end : (at : ℕ) (c : Closing) (steps : List Step) → QuitLacks (session_path session) c steps →
      EndLacks session binding (Called (Call.end session binding) at (Some (Reply.ended c)) ∷ steps)

pub data DeleteLacks (id : List ℕ) : List Step → Type 0 where
  behind_lookup : (at : ℕ) (slot : SlotId) (address : List ℕ) (binding : ℕ) (steps : List Step) → EndLacks id binding steps →
      DeleteLacks id (Called (Call.lookup id) at (Some (Reply.found (found.At slot address binding))) ∷ steps)
