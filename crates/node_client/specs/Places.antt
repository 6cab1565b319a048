-- Where a start stands, what follows from there, and how an answer moves it on.
use Rattle.std.specs.Prelude.{◌≡◌, ℕ, Bool, true, false, List, [], ◌∷◌, ◌++◌, Option, None, Some, Ok}
use Rattle.grid_types.specs.declared.capabilities.Cap.{Cap}
use Rattle.grid_types.specs.declared.entry.Entry.{Entry}
use Rattle.grid_types.specs.declared.entry.FailWhy.{FailWhy}
use Rattle.grid_types.specs.declared.entry.FailWhy.TheVariants as why
use Rattle.grid_types.specs.Tokens.{Reservation, Closing, reservation_of, is_good_reservation, is_good_closing}
use Rattle.grid_types.specs.Calls.{Call, Reply}
use Rattle.hub_core.specs.declared.answers.Binding.{Binding}
use Rattle.hub_core.specs.declared.answers.Binding.TheVariants as binding
use Rattle.hub_core.specs.declared.answers.Failing.{Failing}
use Rattle.hub_core.specs.Replies.{binding_reply, failing_reply, KeepsReservation}
use Rattle.http_frames.specs.declared.replies.NodeReply.{NodeReply}
use Rattle.grid_outside.specs.declared.exchange.Ask.{Ask}
use Rattle.grid_outside.specs.declared.exchange.Reply.TheVariants as reply
use Rattle.grid_outside.specs.Exchanges.{Came, ask_of}
use Rattle.node_client.specs.declared.wants.CarryEnd.{CarryEnd}
use Rattle.node_client.specs.declared.wants.CarryEnd.TheVariants as ends
use Rattle.node_client.specs.declared.wants.CarryWant.{CarryWant}
use Rattle.node_client.specs.declared.wants.CarryWant.TheVariants as wants
use Rattle.node_client.specs.declared.wants.CarryAnswer.{CarryAnswer}
use Rattle.node_client.specs.declared.wants.CarryAnswer.TheVariants as answers
use Rattle.node_client.specs.Asks.{start_ask, quit_ask}
use Rattle.node_client.specs.Replies.{Says, created}
use Rattle.node_client.specs.Steps.{Step, Called, Exchanged, is_lack}
use Rattle.node_client.specs.Start.{Start, Binds, Returns, Fails, FailsAfter, Frees, Refuses}

-- what comes next in the start of a reservation
pub data Place : Type 0 where
  at_start : Place
  at_bind : (session : List ℕ) (caps : List Cap) → Place
  at_return : (session : List ℕ) → Place
  at_fail : (why : FailWhy) → Place
  at_quit : (closing : Closing) → Place
  at_free : (closing : Closing) → Place
  at_end : (end : CarryEnd) → Place

-- the steps that go on from there
abbrev pub Follows : Reservation → Place → List Step → Type 0
Follows r at_start more = Start r more
Follows r (at_bind session caps) more = Binds r session caps more
Follows r (at_return session) more = Returns r session more
Follows r (at_fail w) more = Fails r w more
Follows r (at_quit c) more = (came : Came) × (rest : List Step) ×
    (more ≡ Exchanged c.address (quit_ask c.session) came ∷ rest) × Frees c rest
Follows r (at_free c) more = Frees c more
Follows r (at_end e) more = more ≡ []

-- whatever goes on from the place completes the start, after these steps of it
abbrev pub Leads : Reservation → Place → List Step → Type 0
Leads r place steps = (more : List Step) → Follows r place more → Start r (steps ++ more)

-- what is wanted there
pub data Wanted : Type 0 where
  to_ask : (address : List ℕ) (ask : Ask) → Wanted
  to_call : (call : Call) → Wanted
  over : (end : CarryEnd) → Wanted

abbrev pub wanted_at : Reservation → Place → Wanted
wanted_at r at_start = to_ask r.address (start_ask r.wanted)
wanted_at r (at_bind session caps) = to_call (Call.bind r session caps)
wanted_at r (at_return session) = to_ask r.address (quit_ask session)
wanted_at r (at_fail w) = to_call (Call.fail r w)
wanted_at r (at_quit c) = to_ask c.address (quit_ask c.session)
wanted_at r (at_free c) = to_call (Call.freed c)
wanted_at r (at_end e) = over e

-- what is asked of the nodes is there in the want; a call of the hub is handed out by itself
abbrev pub IsBind : Wanted → Type 0
IsBind (to_call (Call.bind r session caps)) = Unit {0}
IsBind w = ⊥

abbrev pub IsFail : Wanted → Type 0
IsFail (to_call (Call.fail r w)) = Unit {0}
IsFail w = ⊥

abbrev pub IsFreed : Wanted → Type 0
IsFreed (to_call (Call.freed c)) = Unit {0}
IsFreed w = ⊥

abbrev pub Shows : CarryWant → Wanted → Type 0
Shows (wants.Node address request) w = w ≡ to_ask address (ask_of request)
Shows wants.Bind w = IsBind w
Shows wants.Fail w = IsFail w
Shows wants.Freed w = IsFreed w
Shows (wants.Done e) w = w ≡ over e

-- the hub's reply in an answer
abbrev pub reply_in : CarryAnswer → Option Reply
reply_in (answers.Node came) = None
reply_in (answers.Bound b) = binding_reply b
reply_in (answers.Failed f) = failing_reply f
reply_in answers.Freed = Some Reply.is_freed

abbrev pub asked_step : Came → Wanted → List Step
asked_step came (to_ask address ask) = Exchanged address ask came ∷ []
asked_step came (to_call call) = []
asked_step came (over e) = []

abbrev pub called_step : Option Reply → ℕ → Wanted → List Step
called_step reply at (to_ask address ask) = []
called_step reply at (to_call call) = Called call at reply ∷ []
called_step reply at (over e) = []

-- the step that was made, a call at some moment
abbrev pub made : CarryAnswer → Wanted → ℕ → List Step
made (answers.Node came) w at = asked_step came w
made (answers.Bound b) w at = called_step (binding_reply b) at w
made (answers.Failed f) w at = called_step (failing_reply f) at w
made answers.Freed w at = called_step (Some Reply.is_freed) at w

-- an answer to a bind, with its reservation and session where it found no memory
abbrev pub FitsBind : Binding → Wanted → Type 0
FitsBind b (to_call (Call.bind r session caps)) = KeepsReservation r session b
FitsBind b w = ⊥

abbrev pub IsAsk : Wanted → Type 0
IsAsk (to_ask address ask) = Unit {0}
IsAsk w = ⊥

-- the answer is one to the want
abbrev pub Fits : CarryAnswer → Wanted → Type 0
Fits (answers.Node came) w = IsAsk w
Fits (answers.Bound b) w = FitsBind b w
Fits (answers.Failed f) w = IsFail w
Fits answers.Freed w = IsFreed w

-- How an answer moves a start on.
pub data Moves (r : Reservation) : Place → CarryAnswer → Place → Type 0 where
  named : (answer : NodeReply) (session : List ℕ) (caps : List Cap) →
      Says answer.status answer.body (created session caps) →
      Moves r at_start (answers.Node (Ok (reply.Http answer))) (at_bind session caps)
  failed_at_node : (came : Came) (w : FailWhy) → FailsAfter came w →
      Moves r at_start (answers.Node came) (at_fail w)
  was_bound : (session : List ℕ) (caps : List Cap) (number : ℕ) →
      Moves r (at_bind session caps) (answers.Bound (binding.Bound number)) (at_end ends.Bound)
  to_quit : (session : List ℕ) (caps : List Cap) (b : Binding) (answer : Reply) (c : Closing) →
      binding_reply b ≡ Some answer → Refuses answer c → c.quit ≡ true →
      Moves r (at_bind session caps) (answers.Bound b) (at_quit c)
  to_free : (session : List ℕ) (caps : List Cap) (b : Binding) (answer : Reply) (c : Closing) →
      binding_reply b ≡ Some answer → Refuses answer c → c.quit ≡ false →
      Moves r (at_bind session caps) (answers.Bound b) (at_free c)
  found_no_memory : (session : List ℕ) (caps : List Cap) (b : Binding) → binding_reply b ≡ None →
      Moves r (at_bind session caps) (answers.Bound b) (at_return session)
  was_returned : (session : List ℕ) (came : Came) →
      Moves r (at_return session) (answers.Node came) (at_fail why.NoMemory)
  was_quit : (c : Closing) (came : Came) → Moves r (at_quit c) (answers.Node came) (at_free c)
  gave_up : (w : FailWhy) (f : Failing) →
      Moves r (at_fail w) (answers.Failed f) (at_end ends.NotBound)
  was_freed : (c : Closing) → Moves r (at_free c) answers.Freed (at_end ends.NotBound)

-- the start is being given up as out of memory
abbrev pub gives_up_at : Place → Bool
gives_up_at (at_fail w) = is_lack w
gives_up_at place = false

abbrev pub is_bound_end : CarryEnd → Bool
is_bound_end ends.Bound = true
is_bound_end ends.NotBound = false

-- the session is bound
abbrev pub is_bound_at : Place → Bool
is_bound_at (at_end e) = is_bound_end e
is_bound_at place = false

-- what a start holds there is good for the caller, and tells what is so
abbrev pub IsGoodAt : List Entry → ℕ → Reservation → Place → Type 0
IsGoodAt H caller r (at_quit c) = is_good_closing H caller c.slot ≡ true
IsGoodAt H caller r (at_free c) = is_good_closing H caller c.slot ≡ true
IsGoodAt H caller r (at_end e) = Unit {0}
IsGoodAt H caller r place = (is_good_reservation H caller r.request r.slot ≡ true) ×
    (r ≡ reservation_of H r.request r.slot)
