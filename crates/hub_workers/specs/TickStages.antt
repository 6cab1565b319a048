-- What a ticker is at that makes its turns step by step, and one step of it.
use Rattle.std.specs.Prelude.{◌≡◌, ℕ, true, false, List, [], ◌∷◌, ◌++◌, Option, None, Some}
use Rattle.grid_types.specs.Tokens.{Closing}
use Rattle.grid_types.specs.Calls.{Call, Reply}
use Rattle.grid_outside.specs.Told.{ClockView, Tick}
use Rattle.grid_outside.specs.declared.exchange.Ask.{Ask}
use Rattle.grid_outside.specs.Exchanges.{Came}
use Rattle.hub_cell.specs.declared.hub.SharedHub.{SharedHub}
use Rattle.hub_cell.specs.declared.hub.CellFault.{CellFault}
use Rattle.hub_cell.specs.declared.hub.CellFault.TheVariants as fault
use Rattle.hub_cell.specs.Shared.{HasClosing}
use Rattle.node_client.specs.Asks.{quit_ask}
use Rattle.node_client.specs.Steps.{Step, Called}
use Rattle.hub_workers.specs.Amid.{Goes, Says}
use Rattle.hub_workers.specs.Benches.{now_of}
use Rattle.hub_workers.specs.SharedClock.{SharedTells}
use Rattle.node_client.specs.Quitting.{AsksToEnd}
use Rattle.hub_workers.specs.Turns.{AllEnd, IsLastTicket, LookedAll, TickerSpent, TickerTurn, ticker_pause}
use Rattle.hub_workers.specs.World.{Knowledge}
use Rattle.hub_workers.specs.declared.acts.WorkAct.{WorkAct}
use Rattle.hub_workers.specs.declared.acts.WorkAct.TheVariants as acts
use Rattle.hub_workers.specs.declared.bench.Bench.{Bench}
use Rattle.hub_workers.specs.declared.ticking.Idle.TheVariants as idle
use Rattle.hub_workers.specs.declared.tick_steps.TickStage.{TickStage}
use Rattle.hub_workers.specs.declared.tick_steps.TickStage.TheVariants as stages

-- the sweep of a turn, and idle sessions that were ended after it
pub record EndedSome (own : List Step) : Type 0 where
  pub at : ℕ
  pub reply : Reply
  pub done : List Step
  pub ended : AllEnd done
  pub own_are : own ≡ Called Call.sweep at (Some reply) ∷ done

-- then one that was ended at the hub, with what was done for it since
pub record EndsOne (c : Closing) (since own : List Step) : Type 0 where
  pub at : ℕ
  pub reply : Reply
  pub done : List Step
  pub ended : AllEnd done
  pub when : ℕ
  pub own_are : own ≡ Called Call.sweep at (Some reply) ∷ (done ++ Called Call.expire when (Some (Reply.expired c)) ∷ since)

-- or a look that found no more of them
pub record EndedAll (own : List Step) : Type 0 where
  pub at : ℕ
  pub reply : Reply
  pub looks : List Step
  pub looked : LookedAll idle.Over looks
  pub own_are : own ≡ Called Call.sweep at (Some reply) ∷ looks

-- Of the turn of a ticker that is at this, these steps were made. The exchange that is under way asks the node of an ended session
-- to end it.
abbrev pub Ticking : SharedHub → (Option (List ℕ × Ask) → Type 0) → TickStage → Knowledge → List Step → Type 0
Ticking hub asks stages.Between known own = (own ≡ []) × asks None
Ticking hub asks stages.Looking known own = EndedSome own × asks None
Ticking hub asks (stages.Asking c) known own =
    EndsOne c [] own × (c.quit ≡ true) × HasClosing known c × asks (Some (c.address, quit_ask c.session))
Ticking hub asks (stages.Freeing c sent) known own =
    (since : List Step) × EndsOne c since own × AsksToEnd c sent since × HasClosing known c × asks None
Ticking hub asks stages.Pausing known own = EndedAll own × asks None
Ticking hub asks (stages.Over s) known own = TickerSpent own × IsLastTicket hub s

-- what comes after a session was ended at the hub
abbrev pub BeginsToEnd : (Option (List ℕ × Ask) → Type 0) → Closing → TickStage → Type 0
BeginsToEnd asks c (stages.Asking same) = (same ≡ c) × (c.quit ≡ true) × asks (Some (c.address, quit_ask c.session))
BeginsToEnd asks c (stages.Freeing same sent) = (same ≡ c) × (sent ≡ true) × (c.quit ≡ false) × asks None
BeginsToEnd asks c stage = ⊥

-- what comes after a call that was not answered
abbrev pub Unanswered : CellFault → TickStage × WorkAct → Type 0
Unanswered fault.Memory result = result ≡ (stages.Between, acts.GoesOn)
Unanswered (fault.Spent s) result = result ≡ (stages.Over s, acts.Over s)

-- each move is one step
abbrev pub IsOne : List Step → TickStage → TickStage → Type 0
IsOne (step ∷ []) before after = Unit {0}
IsOne more before after = ⊥

abbrev pub IsAsking : TickStage → Type 0
IsAsking (stages.Asking c) = Unit {0}
IsAsking stage = ⊥

abbrev pub TickSays : WorkAct → (moment now : ℕ) → TickStage → TickStage → List Step → Type 0
TickSays = Says IsOne IsAsking stages.Pausing stages.Over ticker_pause

module _ {N S C : Type 0} (hub : SharedHub) (state : N → S) (gives : S → List ℕ → Ask → Came → S → Type 0)
    (asks : N → Option (List ℕ × Ask) → Type 0) (tells : C → Tick → ℕ → C → Type 0) (view : C → ClockView) where
  -- one step of a ticker that was at this, with what it is at then and what it says of that
  abbrev pub TickGoes : (clock : C) (before : TickStage) (old : Bench N C) → TickStage × WorkAct → (new : Bench N C) → Type 0
  TickGoes clock before old result new =
      Goes hub gives (SharedTells tells view) TickerTurn (Ticking hub (asks old.nodes) before) (Ticking hub (asks new.nodes) result.0)
      (TickSays result.1 old.moment (view clock).moment before result.0) (now_of state view old) (now_of state view new)
