-- A command below a session, which its node answers.
use Rattle.std.specs.Prelude.{◌≡◌, ℕ, true, false, List, [], ◌∷◌, Option, None, Some, Ok, Err, codes}
use Rattle.std.specs.List.{concat}
use Rattle.http_frames.specs.Fields.{headers_of, values_of, first_of}
use Rattle.http_frames.specs.Frames.{Request}
use Rattle.grid_types.specs.declared.entry.Found.TheVariants as found
use Rattle.grid_types.specs.declared.names.SlotId.{SlotId}
use Rattle.grid_types.specs.Names.{is_session_name}
use Rattle.grid_types.specs.Calls.{Call, Reply}
use Rattle.grid_outside.specs.declared.exchange.Ask.{Ask}
use Rattle.grid_outside.specs.declared.exchange.Reply.TheVariants.{Http, NotHttp}
use Rattle.grid_outside.specs.declared.exchange.ExchangeFault.TheVariants.{Unreachable, Memory}
use Rattle.grid_outside.specs.Exchanges.{Came}
use Rattle.node_client.specs.Steps.{Step, Called, Spent, Exchanged}
use Rattle.conn_script.specs.Responses.{Response, passed_on, hub_spent}
use Rattle.conn_script.specs.Messages.{no_such_session, node_unreachable, node_not_http}

-- the first value of a header of the request, by its name in small letters
abbrev pub header_of : Request → List ℕ → Option (List ℕ)
header_of f name = first_of (values_of name (headers_of f.0))

-- the client's request as it is passed on: its method, its target, four of its headers, and its body with its chunks joined
abbrev pub relayed : Request → List ℕ → Ask
relayed f target = record {
  method = f.0.method;
  target = target;
  accept = header_of f (codes "accept");
  accept_encoding = header_of f (codes "accept-encoding");
  content_type = header_of f (codes "content-type");
  content_encoding = header_of f (codes "content-encoding");
  body = concat f.1;
}

-- the response, by what came of the exchange; none where it found no memory
abbrev pub relay_response : Came → Option Response
relay_response (Ok (Http reply)) = Some (passed_on reply)
relay_response (Ok (NotHttp bytes)) = Some node_not_http
relay_response (Err Unreachable) = Some node_unreachable
relay_response (Err Memory) = None

-- the node is asked
pub data AfterTouch (ask : Ask) (address : List ℕ) : List Step → Response → Type 0 where
  asked : (came : Came) (response : Response) → relay_response came ≡ Some response → AfterTouch ask address (Exchanged address ask came ∷ []) response

-- the session was found at this address under this binding
pub data AfterFound (ask : Ask) (session address : List ℕ) (binding : ℕ) : List Step → Response → Type 0 where
  touched : (at : ℕ) (steps : List Step) (response : Response) → AfterTouch ask address steps response →
      AfterFound ask session address binding (Called (Call.touch session binding) at (Some Reply.touched) ∷ steps) response
  not_touched : (at : ℕ) → AfterFound ask session address binding (Called (Call.touch session binding) at (Some Reply.no_session) ∷ []) no_such_session
  touch_spent : (at : ℕ) → AfterFound ask session address binding (Spent (Call.touch session binding) at ∷ []) hub_spent

-- where the session runs is asked for
pub data FindsNode (ask : Ask) (id : List ℕ) : List Step → Response → Type 0 where
  found_at : (at : ℕ) (slot : SlotId) (address : List ℕ) (binding : ℕ) (steps : List Step) (response : Response) → AfterFound ask id address binding steps response →
      FindsNode ask id (Called (Call.lookup id) at (Some (Reply.found (found.At slot address binding))) ∷ steps) response
  not_found : (at : ℕ) → FindsNode ask id (Called (Call.lookup id) at (Some (Reply.found found.NoSession)) ∷ []) no_such_session
  lookup_spent : (at : ℕ) → FindsNode ask id (Spent (Call.lookup id) at ∷ []) hub_spent

-- the steps of a relay of this request for the session of this id, and its response
pub data Relay (ask : Ask) (id : List ℕ) : List Step → Response → Type 0 where
  no_name : is_session_name id ≡ false → Relay ask id [] no_such_session
  named : (steps : List Step) (response : Response) → is_session_name id ≡ true → FindsNode ask id steps response → Relay ask id steps response

-- ---- where being out of memory ends the steps: at the touch, or in the exchange

pub data ExchangeLacks (ask : Ask) (address : List ℕ) : List Step → Type 0 where
  not_sent : ExchangeLacks ask address (Exchanged address ask (Err Memory) ∷ [])

pub data TouchLacks (ask : Ask) (session address : List ℕ) (binding : ℕ) : List Step → Type 0 where
  touch_lacks : (at : ℕ) → TouchLacks ask session address binding (Called (Call.touch session binding) at None ∷ [])
  behind_touch : (at : ℕ) (steps : List Step) → ExchangeLacks ask address steps →
      TouchLacks ask session address binding (Called (Call.touch session binding) at (Some Reply.touched) ∷ steps)

pub data RelayLacks (ask : Ask) (id : List ℕ) : List Step → Type 0 where
  behind_lookup : (at : ℕ) (slot : SlotId) (address : List ℕ) (binding : ℕ) (steps : List Step) → TouchLacks ask id address binding steps →
      RelayLacks ask id (Called (Call.lookup id) at (Some (Reply.found (found.At slot address binding))) ∷ steps)
