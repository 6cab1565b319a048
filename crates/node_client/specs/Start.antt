-- A start of a session at a node, once a slot is held for it.
use Rattle.std.specs.Prelude.{◌≡◌, ℕ, true, false, List, [], ◌∷◌, None, Some, Ok, Err}
use Rattle.grid_types.specs.declared.capabilities.Cap.{Cap}
use Rattle.grid_types.specs.declared.entry.FailWhy.{FailWhy}
use Rattle.grid_types.specs.declared.entry.FailWhy.TheVariants as why
use Rattle.grid_types.specs.Names.{IsCutAt}
use Rattle.grid_types.specs.Tokens.{Reservation, Closing}
use Rattle.grid_types.specs.Calls.{Call, Reply}
use Rattle.hub_core.specs.declared.answers.Failing.{Failing}
use Rattle.hub_core.specs.Replies.{failing_reply}
use Rattle.http_frames.specs.declared.replies.NodeReply.{NodeReply}
use Rattle.grid_outside.specs.declared.exchange.Reply.TheVariants as reply
use Rattle.grid_outside.specs.declared.exchange.ExchangeFault.TheVariants as fault
use Rattle.grid_outside.specs.Exchanges.{Came}
use Rattle.node_client.specs.Asks.{start_ask, quit_ask}
use Rattle.node_client.specs.Replies.{Says, created, refused, unclear}
use Rattle.node_client.specs.Steps.{Step, Called, Exchanged}

-- the start is given up for this cause
pub data Fails (reservation : Reservation) (reason : FailWhy) : List Step → Type 0 where
  failed : (at : ℕ) (answer : Failing) →
      Fails reservation reason
      (Called (Call.fail reservation reason) at (failing_reply answer) ∷ [])

-- a closing slot is freed
pub data Frees (closing : Closing) : List Step → Type 0 where
  freed : (at : ℕ) → Frees closing (Called (Call.freed closing) at (Some Reply.is_freed) ∷ [])

-- A session that the hub does not keep is ended at its node, whatever comes of that, unless a
-- session of its id is live at the same address. Then its slot is freed.
pub data Closes (closing : Closing) : List Step → Type 0 where
  quits : {steps : List Step} (came : Came) → closing.quit ≡ true → Frees closing steps →
      Closes closing (Exchanged closing.address (quit_ask closing.session) came ∷ steps)
  leaves : {steps : List Step} → closing.quit ≡ false → Frees closing steps → Closes closing steps

-- after a bind that found no memory the session is ended at its node, whatever comes of that, and
-- the start is given up
pub data Returns (reservation : Reservation) (session : List ℕ) : List Step → Type 0 where
  returned : {steps : List Step} (came : Came) → Fails reservation why.NoMemory steps →
      Returns reservation session (Exchanged reservation.address (quit_ask session) came ∷ steps)

-- the hub does not keep a session, and gives a closing
pub data Refuses : Reply → Closing → Type 0 where
  late : (closing : Closing) → Refuses (Reply.late closing) closing
  node_gone : (closing : Closing) → Refuses (Reply.node_gone closing) closing
  duplicate : (closing : Closing) → Refuses (Reply.duplicate closing) closing
  mismatch : (closing : Closing) → Refuses (Reply.mismatch closing) closing

-- a session that was started is bound
pub data Binds (reservation : Reservation) (session : List ℕ) (caps : List Cap) :
    List Step → Type 0 where
  bound : (at binding : ℕ) →
      Binds reservation session caps
      (Called (Call.bind reservation session caps) at (Some (Reply.bound binding)) ∷ [])
  refuses : {steps : List Step} (at : ℕ) (reply : Reply) (closing : Closing) →
      Refuses reply closing → Closes closing steps →
      Binds reservation session caps
      (Called (Call.bind reservation session caps) at (Some reply) ∷ steps)
  lacks : {steps : List Step} (at : ℕ) → Returns reservation session steps →
      Binds reservation session caps
      (Called (Call.bind reservation session caps) at None ∷ steps)

-- why a start fails after what came of its exchange; out of memory may come also where a reply is
-- read
pub data FailsAfter : Came → FailWhy → Type 0 where
  unreachable : FailsAfter (Err fault.Unreachable) why.Unreachable
  not_asked : FailsAfter (Err fault.Memory) why.NoMemory
  not_http : (bytes : List ℕ) → FailsAfter (Ok (reply.NotHttp bytes)) why.NotHttp
  tells : (answer : NodeReply) (message words : List ℕ) →
      Says answer.status answer.body (refused message) → IsCutAt 200 message words →
      FailsAfter (Ok (reply.Http answer)) (why.NodeRefused words)
  tells_nothing : (answer : NodeReply) → Says answer.status answer.body unclear →
      FailsAfter (Ok (reply.Http answer)) why.BadReply
  unread : (answer : NodeReply) → FailsAfter (Ok (reply.Http answer)) why.NoMemory

-- The node is asked for a session with the capabilities that are wanted. One that its reply names
-- is bound, else the start is given up. The exchange is left out where its request could not be
-- written, as there was no memory.
pub data Start (reservation : Reservation) : List Step → Type 0 where
  unwritten : {steps : List Step} → Fails reservation why.NoMemory steps → Start reservation steps
  fails : {steps : List Step} (came : Came) (reason : FailWhy) → FailsAfter came reason →
      Fails reservation reason steps →
      Start reservation
      (Exchanged reservation.address (start_ask reservation.wanted) came ∷ steps)
  names : {steps : List Step} (answer : NodeReply) (session : List ℕ) (caps : List Cap) →
      Says answer.status answer.body (created session caps) →
      Binds reservation session caps steps →
      Start reservation
      (Exchanged reservation.address (start_ask reservation.wanted) (Ok (reply.Http answer)) ∷ steps)
