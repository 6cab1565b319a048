-- What a worker is at that makes its turns step by step, and one step of it.
use Rattle.std.specs.Prelude.{◌≡◌, ℕ, true, List, [], ◌∷◌, Option, None, Some}
use Rattle.grid_types.specs.Tokens.{Reservation}
use Rattle.grid_types.specs.Calls.{Call, Reply}
use Rattle.grid_outside.specs.Told.{ClockView, Tick}
use Rattle.grid_outside.specs.declared.exchange.Ask.{Ask}
use Rattle.grid_outside.specs.Exchanges.{Came}
use Rattle.hub_cell.specs.declared.hub.SharedHub.{SharedHub}
use Rattle.node_client.specs.declared.carry.Carry.{Carry}
use Rattle.node_client.specs.Steps.{Step, Called}
use Rattle.node_client.specs.Places.{Place, to_ask, wanted_at}
use Rattle.node_client.specs.Carrying.{Exchange, Stands, awaited, is_fresh}
use Rattle.hub_workers.specs.Amid.{Goes, Says}
use Rattle.hub_workers.specs.Benches.{now_of}
use Rattle.hub_workers.specs.Carried.{HasAt}
use Rattle.hub_workers.specs.SharedClock.{SharedTells}
use Rattle.hub_workers.specs.Turns.{IsLastTicket, WorkerSpent, WorkerTurn, worker_pause}
use Rattle.hub_workers.specs.World.{Knowledge}
use Rattle.hub_workers.specs.declared.acts.WorkAct.{WorkAct}
use Rattle.hub_workers.specs.declared.bench.Bench.{Bench}
use Rattle.hub_workers.specs.declared.work_steps.WorkStage.{WorkStage}
use Rattle.hub_workers.specs.declared.work_steps.WorkStage.TheVariants as stages

-- a dispatch that assigned nothing
pub data FindsNothing : List Step → Type 0 where
  nothing_there : (at : ℕ) → FindsNothing (Called Call.dispatch at (Some Reply.nothing) ∷ [])
  no_memory : (at : ℕ) → FindsNothing (Called Call.dispatch at None ∷ [])

-- a dispatch that assigned a reservation, and these steps of its start, for which the value stands
pub record StartsSo (carry : Carry) (known : Knowledge) (own : List Step) : Type 0 where
  pub at : ℕ
  pub r : Reservation
  pub place : Place
  pub steps : List Step
  pub stands : Stands carry r place steps
  pub good : HasAt known r place
  pub own_are : own ≡ Called Call.dispatch at (Some (Reply.assigned r)) ∷ steps

-- the exchange under way is the one that the start wants
pub record AsksSo (asks : Option (List ℕ × Ask) → Type 0) (carry : Carry) (known : Knowledge) (own : List Step) : Type 0 where
  pub start : StartsSo carry known own
  pub address : List ℕ
  pub ask : Ask
  pub wanted : wanted_at start.r start.place ≡ to_ask address ask
  pub under : asks (Some (address, ask))
  pub awaits : awaited carry ≡ Some Exchange

-- Of the turn of a worker that is at this, these steps were made. An exchange is under way only where it waits for its node.
abbrev pub Works : SharedHub → (Option (List ℕ × Ask) → Type 0) → WorkStage → Knowledge → List Step → Type 0
Works hub asks stages.Between known own = (own ≡ []) × asks None
Works hub asks (stages.Starting carry) known own = StartsSo carry known own × (is_fresh carry ≡ true) × asks None
Works hub asks (stages.Asking carry) known own = AsksSo asks carry known own
Works hub asks stages.Pausing known own = FindsNothing own × asks None
Works hub asks (stages.Over s) known own = WorkerSpent own × IsLastTicket hub s

-- By so many steps it gets from the one to the other: by one, or by none where a start begins an exchange or is over.
abbrev pub MovesAtOnce : WorkStage → WorkStage → Type 0
MovesAtOnce (stages.Starting carry) (stages.Asking same) = Unit {0}
MovesAtOnce (stages.Starting carry) stages.Between = Unit {0}
MovesAtOnce before after = ⊥

abbrev pub Moves : List Step → WorkStage → WorkStage → Type 0
Moves [] before after = MovesAtOnce before after
Moves (step ∷ []) before after = Unit {0}
Moves (step ∷ next ∷ more) before after = ⊥

abbrev pub IsAsking : WorkStage → Type 0
IsAsking (stages.Asking carry) = Unit {0}
IsAsking stage = ⊥

abbrev pub WorkSays : WorkAct → (moment now : ℕ) → WorkStage → WorkStage → List Step → Type 0
WorkSays = Says Moves IsAsking stages.Pausing stages.Over worker_pause

module _ {N S C : Type 0} (hub : SharedHub) (state : N → S) (gives : S → List ℕ → Ask → Came → S → Type 0)
    (asks : N → Option (List ℕ × Ask) → Type 0) (tells : C → Tick → ℕ → C → Type 0) (view : C → ClockView) where
  -- one step of a worker that was at this, with what it is at then and what it says of that
  abbrev pub WorkGoes : (clock : C) (before : WorkStage) (old : Bench N C) → WorkStage × WorkAct → (new : Bench N C) → Type 0
  WorkGoes clock before old result new =
      Goes hub gives (SharedTells tells view) WorkerTurn (Works hub (asks old.nodes) before) (Works hub (asks new.nodes) result.0)
      (WorkSays result.1 old.moment (view clock).moment before result.0) (now_of state view old) (now_of state view new)
