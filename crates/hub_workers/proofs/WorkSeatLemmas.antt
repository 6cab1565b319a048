-- What is told of a worker that makes its turns step by step.
use Rattle.std.proofs.Common.{◌≡◌, ℕ, ◌+◌, List, subst}
use Rattle.std.specs.Prelude.{Option, IfSome}
use Rattle.grid_outside.specs.Told.{ClockView, Tick}
use Rattle.grid_outside.specs.declared.exchange.Ask.{Ask}
use Rattle.grid_outside.specs.Exchanges.{Came}
use Rattle.hub_cell.specs.declared.hub.SharedHub.{SharedHub}
use Rattle.hub_workers.specs.Amid.{Amid}
use Rattle.hub_workers.specs.SharedClock.{Asked, SharedTells}
use Rattle.hub_workers.specs.Turns.{WorkerSpent, WorkerTurn}
use Rattle.hub_workers.specs.WorkStages.{Works}
use Rattle.hub_workers.specs.WorkSeats.{HasWorked, IsAtWork, end_at, first_of, last_of}
use Rattle.hub_workers.specs.declared.ends.WorkerEnd.TheVariants as ends
use Rattle.hub_workers.specs.declared.work_steps.WorkStage.{WorkStage}
use Rattle.hub_workers.specs.declared.work_steps.WorkStage.TheVariants as stages
use Rattle.hub_workers.specs.declared.work_seats.WorkSeat.{WorkSeat}
use Rattle.hub_workers.proofs.AmidLemmas.{attends_on, worked_all, worked_spent}
use Rattle.hub_workers.proofs.WorkLemmas.{worker_count}

module _ {N S C : Type 0} (hub : SharedHub) (state : N → S) (gives : S → List ℕ → Ask → Came → S → Type 0)
    (asks : N → Option (List ℕ × Ask) → Type 0) (tells : C → Tick → ℕ → C → Type 0) (view : C → ClockView) where
  pub told : (seat : WorkSeat N C) (stage : WorkStage) → Amid hub gives (SharedTells tells view) WorkerTurn (Works hub (asks seat.bench.nodes) stage) (first_of state view seat) (last_of state view seat) →
      IfSome (end_at stage) (HasWorked hub state gives tells view seat)
  told seat stages.Between a =
      let worked = worked_all hub gives (SharedTells tells view) WorkerTurn WorkerSpent a.turns a.done a.own (first_of state view seat) (last_of state view seat) a.turned a.so.0 a.went in
      record {
        turns = a.turns;
        worked = worked;
        told = tt;
        spent = worker_count hub gives (SharedTells tells view) a.turns (first_of state view seat) (last_of state view seat) ends.TurnsDone worked;
      }
  told seat (stages.Over s) a =
      let worked = worked_spent hub gives (SharedTells tells view) WorkerTurn WorkerSpent a.turns a.done a.own s (first_of state view seat) (last_of state view seat) a.turned a.so.0 a.went in
      record {
        turns = a.turns + 1;
        worked = worked;
        told = a.so.1;
        spent = worker_count hub gives (SharedTells tells view) (a.turns + 1) (first_of state view seat) (last_of state view seat) (ends.Spent s) worked;
      }
  told seat (stages.Starting carry) a = tt
  told seat (stages.Asking carry) a = tt
  told seat stages.Pausing a = tt

  pub at_work_on : (clock later : C) (seat : WorkSeat N C) → Asked tells view clock later → IsAtWork hub state gives asks tells view clock seat → IsAtWork hub state gives asks tells view later seat
  at_work_on clock later seat asked s = record { attends = attends_on hub tells view clock later seat.bench asked s.attends; amid = s.amid }

  pub told_at : (seat : WorkSeat N C) (clock : C) (stage : WorkStage) → seat.stage ≡ stage → IsAtWork hub state gives asks tells view clock seat → IfSome (end_at stage) (HasWorked hub state gives tells view seat)
  told_at seat clock stage is s = subst (λ (x : WorkStage). IfSome (end_at x) (HasWorked hub state gives tells view seat)) is (told seat seat.stage s.amid)
