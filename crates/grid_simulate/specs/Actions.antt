-- What a simulation does in one of its steps.
use Rattle.std.specs.Prelude.{◌≡◌, ◌≢◌, ℕ, ◌==◌, Bool, true, false, if◌then◌else◌, nat_lt, List, [], ◌∷◌, ◌++◌, length, Option, None, Some, Err, codes}
use Rattle.std.specs.List.{slice_get, remove}
use Rattle.grid_types.specs.declared.capabilities.Cap.{Cap}
use Rattle.grid_types.specs.Lists.{numbers_from}
use Rattle.grid_types.specs.Tokens.{Ticket, Reservation, Closing}
use Rattle.grid_types.specs.Calls.{Call, Reply}
use Rattle.grid_outside.specs.declared.exchange.ExchangeFault.TheVariants.{Memory}
use Rattle.grid_outside.specs.Exchanges.{Came}
use Rattle.node_client.specs.Asks.{quit_ask}
use Rattle.loop_node.specs.Links.{NodesGive}
use Rattle.loop_node.specs.Sessions.{Node, text_cap}
use Rattle.grid_simulate.specs.declared.simulation.Kept.{Kept}
use Rattle.grid_simulate.specs.declared.actions.Action.{Action}
use Rattle.grid_simulate.specs.declared.actions.Action.TheVariants as action
use Rattle.grid_simulate.specs.World.{World, draw, drawn, reply_to, called}
use Rattle.grid_simulate.specs.Starts.{Starts}

-- the action by a draw below 12
abbrev pub action_of : ℕ → Action
action_of n =
    if nat_lt n 4 then action.Enqueue
    else if nat_lt n 6 then action.Dispatch
    else if nat_lt n 8 then action.Start
    else if nat_lt n 9 then action.Poll
    else if nat_lt n 10 then action.End
    else if nat_lt n 11 then action.Sweep
    else action.Other

-- ---- requests

-- the browser that a request wants, by a draw below 4
abbrev pub wanted_browser : ℕ → List ℕ
wanted_browser n =
    if n == 0 then codes "chrome"
    else if n == 1 then codes "firefox"
    else if n == 2 then codes "safari"
    else codes "edge"

-- one choice, of this browser alone
abbrev pub choices_of : List ℕ → List (List Cap)
choices_of browser = (text_cap (codes "browserName") browser ∷ []) ∷ []

-- a ticket goes to the end of the tickets
abbrev pub with_ticket : World → Reply → World
with_ticket w (Reply.queued t) = record w { tickets = w.tickets ++ t ∷ [] }
with_ticket w reply = w

abbrev pub enqueues : World → Call → World
enqueues w call = with_ticket (called w call) (reply_to w call)

abbrev pub enqueued : World → World
enqueued w = enqueues (drawn w) (Call.enqueue (choices_of (wanted_browser (draw w 4))))

-- a reservation goes to the end of the reservations
abbrev pub with_reservation : World → Reply → World
with_reservation w (Reply.assigned r) = record w { reservations = w.reservations ++ r ∷ [] }
with_reservation w reply = w

abbrev pub dispatched : World → World
dispatched w = with_reservation (called w Call.dispatch) (reply_to w Call.dispatch)

-- what a poll of the ticket at a place gives: a reservation, an outcome with which the ticket leaves, or neither
abbrev pub with_poll : World → ℕ → Reply → World
with_poll w place (Reply.yours t r) = record w { reservations = w.reservations ++ r ∷ [] }
with_poll w place (Reply.settled outcome) = record w { tickets = remove w.tickets place }
with_poll w place reply = w

abbrev pub polled_at : World → ℕ → Option Ticket → World
polled_at w place None = w
polled_at w place (Some t) = with_poll (called w (Call.poll t)) place (reply_to w (Call.poll t))

-- a ticket that is drawn is polled; where there is none nothing is drawn
abbrev pub polled_of : World → List Ticket → World
polled_of w [] = w
polled_of w (t ∷ ts) =
    polled_at (drawn w) (draw w (length (t ∷ ts))) (slice_get (t ∷ ts) (draw w (length (t ∷ ts))))

abbrev pub polled : World → World
polled w = polled_of w w.tickets

-- ---- starts

-- the reservation at a place is taken out and started
abbrev pub StartsAt : World → ℕ → Option Reservation → World → Type 0
StartsAt w place None new = new ≡ w
StartsAt w place (Some r) new = Starts r (record w { reservations = remove w.reservations place }) new

-- one that is drawn
abbrev pub StartsOf : World → List Reservation → World → Type 0
StartsOf w [] new = new ≡ w
StartsOf w (r ∷ rs) new =
    StartsAt (drawn w) (draw w (length (r ∷ rs))) (slice_get (r ∷ rs) (draw w (length (r ∷ rs)))) new

-- ---- sessions

-- the node is asked to end the session of the closing, whatever comes of that but out of memory, and then its slot is
-- freed
pub record Quits (c : Closing) (old new : World) : Type 0 where
  pub came : Came
  pub later : List Node
  pub gives : NodesGive old.nodes c.address (quit_ask c.session) came later
  pub full : came ≢ Err Memory
  pub freed : new ≡ called (record old { nodes = later }) (Call.freed c)

-- after the end of a session
abbrev pub Finishes : World → Reply → World → Type 0
Finishes w (Reply.ended c) new = Quits c w new
Finishes w reply new = new ≡ w

abbrev pub EndsCall : World → Call → World → Type 0
EndsCall w call new = Finishes (called w call) (reply_to w call) new

-- the session at a place is taken out and ended
abbrev pub EndsAt : World → ℕ → Option Kept → World → Type 0
EndsAt w place None new = new ≡ w
EndsAt w place (Some k) new =
    EndsCall (record w { sessions = remove w.sessions place }) (Call.end k.session k.binding) new

-- one that is drawn
abbrev pub EndsOf : World → List Kept → World → Type 0
EndsOf w [] new = new ≡ w
EndsOf w (k ∷ ks) new =
    EndsAt (drawn w) (draw w (length (k ∷ ks))) (slice_get (k ∷ ks) (draw w (length (k ∷ ks)))) new

-- ---- what is over by its time

-- the node is asked only where that is called for
abbrev pub QuitsIf : Bool → Closing → World → World → Type 0
QuitsIf true c old new = Quits c old new
QuitsIf false c old new = new ≡ called old (Call.freed c)

-- idle sessions are ended one after the other, until there is none
pub data Expires : World → World → Type 0 where
  over : (w : World) → reply_to w Call.expire ≡ Reply.nothing → Expires w (called w Call.expire)
  one : (w next new : World) (c : Closing) → reply_to w Call.expire ≡ Reply.expired c →
      QuitsIf c.quit c (called w Call.expire) next → Expires next new → Expires w new

-- ---- the others

-- the nodes give a sign of life, in this order
unfoldable pub beaten : List ℕ → World → World
beaten [] w = w
beaten (n ∷ ns) w = beaten ns (called w (Call.beat n None))

-- once in twenty times the queue is cleared
abbrev pub cleared_or_beaten : ℕ → World → World
cleared_or_beaten n w = if n == 0 then called w Call.clear else beaten (numbers_from 1 8) w

-- an action leads from the one world to the other
abbrev pub Acts : Action → World → World → Type 0
Acts action.Enqueue old new = new ≡ enqueued old
Acts action.Dispatch old new = new ≡ dispatched old
Acts action.Start old new = StartsOf old old.reservations new
Acts action.Poll old new = new ≡ polled old
Acts action.End old new = EndsOf old old.sessions new
Acts action.Sweep old new = Expires (called old Call.sweep) new
Acts action.Other old new = new ≡ cleared_or_beaten (draw old 20) (drawn old)
