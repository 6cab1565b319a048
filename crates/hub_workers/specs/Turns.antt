-- The turns of workers and of tickers.
use Rattle.std.specs.Prelude.{◌≡◌, ◌⊎◌, ℕ, ◌+◌, ◌<◌, ◌^◌, max, Bool, true, false, List, [], ◌∷◌, ◌++◌, Option, None, Some}
use Rattle.grid_types.specs.Tokens.{Reservation, Closing}
use Rattle.grid_types.specs.Calls.{Call, Reply}
use Rattle.grid_outside.specs.Told.{Tick}
use Rattle.grid_outside.specs.declared.exchange.Ask.{Ask}
use Rattle.grid_outside.specs.Exchanges.{Came}
use Rattle.grid_types.specs.declared.spent.Spent as spent
use Rattle.hub_cell.specs.declared.hub.SharedHub.{SharedHub}
use Rattle.hub_cell.specs.Passes.{first_of}
use Rattle.node_client.specs.Quitting.{AsksToEnd}
use Rattle.node_client.specs.Steps.{Step, Called, Spent, Paused}
use Rattle.node_client.specs.Start.{Start}
use Rattle.hub_workers.specs.Carried.{SpentStart}
use Rattle.hub_workers.specs.World.{Went, World}
use Rattle.hub_workers.specs.declared.ends.WorkerEnd.{WorkerEnd}
use Rattle.hub_workers.specs.declared.ends.WorkerEnd.TheVariants as ends
use Rattle.hub_workers.specs.declared.ticking.Idle.{Idle}
use Rattle.hub_workers.specs.declared.ticking.Idle.TheVariants as idle

-- the milliseconds that a worker pauses where nothing is assigned
abbrev pub worker_pause : ℕ
worker_pause = 15

-- and that a ticker pauses at the end of each turn
abbrev pub ticker_pause : ℕ
ticker_pause = 1_000

-- ---- workers

-- a turn of a worker: one dispatch, and the start of what it assigned, or a pause
pub data WorkerTurn : List Step → Type 0 where
  starts : {own : List Step} (at : ℕ) (r : Reservation) → Start r own →
      WorkerTurn (Called Call.dispatch at (Some (Reply.assigned r)) ∷ own)
  finds_nothing : (at : ℕ) →
      WorkerTurn (Called Call.dispatch at (Some Reply.nothing) ∷ Paused worker_pause ∷ [])
  dispatch_lacks : (at : ℕ) → WorkerTurn (Called Call.dispatch at None ∷ Paused worker_pause ∷ [])

-- one in which a call found the hub spent
pub data WorkerSpent : List Step → Type 0 where
  dispatch_spent : (at : ℕ) → WorkerSpent (Spent Call.dispatch at ∷ [])
  start_spent : {own : List Step} (at : ℕ) (r : Reservation) → SpentStart r own →
      WorkerSpent (Called Call.dispatch at (Some (Reply.assigned r)) ∷ own)

-- ---- tickers

-- and then the slot of the session is freed
pub record AsksAndFrees (c : Closing) (sent : Bool) (steps : List Step) : Type 0 where
  pub own : List Step
  pub at : ℕ
  pub asks : AsksToEnd c sent own
  pub steps_are : steps ≡ own ++ Called (Call.freed c) at (Some Reply.is_freed) ∷ []

pub record AsksAndStops (c : Closing) (steps : List Step) : Type 0 where
  pub sent : Bool
  pub own : List Step
  pub at : ℕ
  pub asks : AsksToEnd c sent own
  pub steps_are : steps ≡ own ++ Spent (Call.freed c) at ∷ []

abbrev pub Finishes : Closing → Idle → List Step → Type 0
Finishes c idle.Ended steps = AsksAndFrees c true steps
Finishes c idle.Over steps = ⊥
Finishes c idle.Lacks steps = AsksAndFrees c false steps
Finishes c (idle.Spent s) steps = AsksAndStops c steps

-- an idle session is ended, first at the hub, then at its node; and its slot is freed
pub data EndsIdle : (sent : Bool) → List Step → Type 0 where
  ends_idle : {sent : Bool} {own : List Step} (at : ℕ) (c : Closing) → AsksAndFrees c sent own →
      EndsIdle sent (Called Call.expire at (Some (Reply.expired c)) ∷ own)

-- one call of that found the hub spent
pub data IdleSpent : List Step → Type 0 where
  expire_spent : (at : ℕ) → IdleSpent (Spent Call.expire at ∷ [])
  freed_spent : {own : List Step} (at : ℕ) (c : Closing) → AsksAndStops c own →
      IdleSpent (Called Call.expire at (Some (Reply.expired c)) ∷ own)

-- idle sessions, one after the other
pub data AllEnd : List Step → Type 0 where
  none_yet : AllEnd []
  one_more : {done own : List Step} → AllEnd done → EndsIdle true own → AllEnd (done ++ own)

-- what came of one look for an idle session
abbrev pub Looked : Idle → List Step → Type 0
Looked idle.Ended steps = EndsIdle true steps
Looked idle.Over steps = (at : ℕ) × (steps ≡ Called Call.expire at (Some Reply.nothing) ∷ [])
Looked idle.Lacks steps = ((at : ℕ) × (steps ≡ Called Call.expire at None ∷ [])) ⊎ EndsIdle false steps
Looked (idle.Spent s) steps = IdleSpent steps

-- and of all looks of a turn: the sessions that were ended, and the last look
pub record LookedAll (found : Idle) (steps : List Step) : Type 0 where
  pub done : List Step
  pub own : List Step
  pub ended : AllEnd done
  pub last : Looked found own
  pub steps_are : steps ≡ done ++ own

-- after the sweep each idle session is ended, until there is none, and then comes a pause; out of memory the turn ends
pub data AfterSweep : List Step → Type 0 where
  ends_with_pause : {own : List Step} → LookedAll idle.Over own → AfterSweep (own ++ Paused ticker_pause ∷ [])
  looks_lack : {own : List Step} → LookedAll idle.Lacks own → AfterSweep own

pub data AfterSweepSpent : List Step → Type 0 where
  look_spent : {own : List Step} (s : spent.Spent) → LookedAll (idle.Spent s) own → AfterSweepSpent own

-- a turn of a ticker
pub data TickerTurn : List Step → Type 0 where
  swept : {own : List Step} (at : ℕ) (reply : Reply) → AfterSweep own → TickerTurn (Called Call.sweep at (Some reply) ∷ own)
  sweep_lacks : (at : ℕ) → TickerTurn (Called Call.sweep at None ∷ [])

-- one in which a call found the hub spent
pub data TickerSpent : List Step → Type 0 where
  sweep_spent : (at : ℕ) → TickerSpent (Spent Call.sweep at ∷ [])
  later_spent : {own : List Step} (at : ℕ) (reply : Reply) → AfterSweepSpent own →
      TickerSpent (Called Call.sweep at (Some reply) ∷ own)

-- ---- turns one after the other

-- so many turns
pub data Turns (IsTurn : List Step → Type 0) : ℕ → List Step → Type 0 where
  no_turn : Turns IsTurn 0 []
  one_turn_more : {turns more : ℕ} {done own : List Step} → more ≡ turns + 1 → Turns IsTurn turns done → IsTurn own →
      Turns IsTurn more (done ++ own)

-- fewer turns, and then one in which a call found the hub spent
pub record StopsBefore (IsTurn IsSpent : List Step → Type 0) (turns : ℕ) (steps : List Step) : Type 0 where
  pub made : ℕ
  pub done : List Step
  pub own : List Step
  pub fewer : made < turns
  pub turned : Turns IsTurn made done
  pub stopped : IsSpent own
  pub steps_are : steps ≡ done ++ own

abbrev pub EndsSo : (IsTurn IsSpent : List Step → Type 0) → ℕ → WorkerEnd → List Step → Type 0
EndsSo IsTurn IsSpent turns ends.TurnsDone steps = Turns IsTurn turns steps
EndsSo IsTurn IsSpent turns (ends.Spent s) steps = StopsBefore IsTurn IsSpent turns steps

-- the number that is told where no ticket is left
abbrev pub IsLastTicket : SharedHub → spent.Spent → Type 0
IsLastTicket hub s = s.ticket ≡ max (first_of hub) (2 ^ 62)

abbrev pub TellsLast : SharedHub → WorkerEnd → Type 0
TellsLast hub ends.TurnsDone = Unit {0}
TellsLast hub (ends.Spent s) = IsLastTicket hub s

-- the same of one look for an idle session
abbrev pub LookTellsLast : SharedHub → Idle → Type 0
LookTellsLast hub (idle.Spent s) = IsLastTicket hub s
LookTellsLast hub found = Unit {0}

-- a count of looks that found the hub spent, after such an end
abbrev pub spent_after : ℕ → WorkerEnd → ℕ
spent_after count ends.TurnsDone = count
spent_after count (ends.Spent s) = count + 1

module _ {N C : Type 0} (hub : SharedHub) (gives : N → List ℕ → Ask → Came → N → Type 0) (tells : C → Tick → ℕ → C → Type 0) where
  -- by steps of this kind the world went on
  pub record WentBy (IsSo : List Step → Type 0) (old new : World N C) : Type 0 where
    pub steps : List Step
    pub are : IsSo steps
    pub went : Went hub gives tells old steps new

  -- one turn, or one in which a call found the hub spent
  abbrev pub OneTurn : (IsTurn IsSpent : List Step → Type 0) → World N C → Option spent.Spent → World N C → Type 0
  OneTurn IsTurn IsSpent old None new = WentBy IsTurn old new
  OneTurn IsTurn IsSpent old (Some s) new = WentBy IsSpent old new

  -- so many turns, or fewer and one in which a call found the hub spent
  abbrev pub Worked : (IsTurn IsSpent : List Step → Type 0) → ℕ → World N C → WorkerEnd → World N C → Type 0
  Worked IsTurn IsSpent turns old end new = WentBy (EndsSo IsTurn IsSpent turns end) old new
