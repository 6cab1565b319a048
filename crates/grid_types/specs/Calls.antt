-- The hub's calls and replies as plain data. A token in one is all that it tells.
use Rattle.std.specs.Prelude.{ℕ, List, Option}
use Rattle.grid_types.specs.declared.capabilities.Cap.{Cap}
use Rattle.grid_types.specs.declared.capabilities.Registration.{Registration}
use Rattle.grid_types.specs.declared.entry.FailWhy.{FailWhy}
use Rattle.grid_types.specs.declared.entry.Found.{Found}
use Rattle.grid_types.specs.declared.entry.Outcome.{Outcome}
use Rattle.grid_types.specs.declared.view.View.{View}
use Rattle.grid_types.specs.Tokens.{Ticket, Reservation, Closing}

-- what the hub is asked; a moment and a caller come with each
pub data Call : Type 0 where
  register : (node : Registration) → Call
  beat : (node : ℕ) (name : Option (List ℕ)) → Call
  drain : (node : ℕ) → Call
  remove : (node : ℕ) → Call
  enqueue : (choices : List (List Cap)) → Call
  poll : (ticket : Ticket) → Call
  withdraw : (ticket : Ticket) → Call
  dispatch : Call
  bind : (reservation : Reservation) (session : List ℕ) (caps : List Cap) → Call
  fail : (reservation : Reservation) (why : FailWhy) → Call
  lookup : (session : List ℕ) → Call
  touch : (session : List ℕ) (binding : ℕ) → Call
  end : (session : List ℕ) (binding : ℕ) → Call
  freed : (closing : Closing) → Call
  sweep : Call
  expire : Call
  clear : Call
  view : Call

-- what it answers
pub data Reply : Type 0 where
  registered : (node : ℕ) → Reply
  name_taken : (node : ℕ) → Reply
  nodes_full : (listed : ℕ) → Reply
  numbers_spent : Reply
  beaten : Reply
  draining : Reply
  removed : Reply
  no_node : Reply
  queued : (ticket : Ticket) → Reply
  unsupported : Reply
  queue_full : (count bytes : ℕ) → Reply
  not_yet : (ticket : Ticket) → Reply
  yours : (ticket : Ticket) (reservation : Reservation) → Reply
  settled : (outcome : Outcome) → Reply
  withdrawn : Reply
  assigned : (reservation : Reservation) → Reply
  nothing : Reply
  bound : (binding : ℕ) → Reply
  late : (closing : Closing) → Reply
  node_gone : (closing : Closing) → Reply
  duplicate : (closing : Closing) → Reply
  mismatch : (closing : Closing) → Reply
  failed_again : Reply
  failed_refused : Reply
  failed_late : Reply
  found : (found : Found) → Reply
  touched : Reply
  no_session : Reply
  ended : (closing : Closing) → Reply
  is_freed : Reply
  swept : (lapsed suspected timed_out removed : ℕ) → Reply
  expired : (closing : Closing) → Reply
  cleared : (count : ℕ) → Reply
  viewed : (view : View) → Reply
