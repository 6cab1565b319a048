-- What is told of a ticker that makes its turns step by step.
use Rattle.std.proofs.Common.{◌≡◌, ℕ, ◌+◌, List, subst}
use Rattle.std.specs.Prelude.{Option, IfSome}
use Rattle.grid_outside.specs.Told.{ClockView, Tick}
use Rattle.grid_outside.specs.declared.exchange.Ask.{Ask}
use Rattle.grid_outside.specs.Exchanges.{Came}
use Rattle.hub_cell.specs.declared.hub.SharedHub.{SharedHub}
use Rattle.hub_workers.specs.Amid.{Amid}
use Rattle.hub_workers.specs.SharedClock.{Asked, SharedTells}
use Rattle.hub_workers.specs.Turns.{TickerSpent, TickerTurn}
use Rattle.hub_workers.specs.TickStages.{Ticking}
use Rattle.hub_workers.specs.TickSeats.{HasTicked, IsAtTick, end_at, first_of, last_of}
use Rattle.hub_workers.specs.declared.ends.WorkerEnd.TheVariants as ends
use Rattle.hub_workers.specs.declared.tick_steps.TickStage.{TickStage}
use Rattle.hub_workers.specs.declared.tick_steps.TickStage.TheVariants as stages
use Rattle.hub_workers.specs.declared.tick_seats.TickSeat.{TickSeat}
use Rattle.hub_workers.proofs.AmidLemmas.{attends_on, worked_all, worked_spent}
use Rattle.hub_workers.proofs.WorkLemmas.{ticker_count}

module _ {N S C : Type 0} (hub : SharedHub) (state : N → S) (gives : S → List ℕ → Ask → Came → S → Type 0)
    (asks : N → Option (List ℕ × Ask) → Type 0) (tells : C → Tick → ℕ → C → Type 0) (view : C → ClockView) where
  pub told : (seat : TickSeat N C) (stage : TickStage) → Amid hub gives (SharedTells tells view) TickerTurn (Ticking hub (asks seat.bench.nodes) stage) (first_of state view seat) (last_of state view seat) →
      IfSome (end_at stage) (HasTicked hub state gives tells view seat)
  told seat stages.Between a =
      let worked = worked_all hub gives (SharedTells tells view) TickerTurn TickerSpent a.turns a.done a.own (first_of state view seat) (last_of state view seat) a.turned a.so.0 a.went in
      record {
        turns = a.turns;
        worked = worked;
        told = tt;
        spent = ticker_count hub gives (SharedTells tells view) a.turns (first_of state view seat) (last_of state view seat) ends.TurnsDone worked;
      }
  told seat (stages.Over s) a =
      let worked = worked_spent hub gives (SharedTells tells view) TickerTurn TickerSpent a.turns a.done a.own s (first_of state view seat) (last_of state view seat) a.turned a.so.0 a.went in
      record {
        turns = a.turns + 1;
        worked = worked;
        told = a.so.1;
        spent = ticker_count hub gives (SharedTells tells view) (a.turns + 1) (first_of state view seat) (last_of state view seat) (ends.Spent s) worked;
      }
  told seat stages.Looking a = tt
  told seat (stages.Asking c) a = tt
  told seat (stages.Freeing c sent) a = tt
  told seat stages.Pausing a = tt

  pub at_work_on : (clock later : C) (seat : TickSeat N C) → Asked tells view clock later → IsAtTick hub state gives asks tells view clock seat → IsAtTick hub state gives asks tells view later seat
  at_work_on clock later seat asked s = record { attends = attends_on hub tells view clock later seat.bench asked s.attends; amid = s.amid }

  pub told_at : (seat : TickSeat N C) (clock : C) (stage : TickStage) → seat.stage ≡ stage → IsAtTick hub state gives asks tells view clock seat → IfSome (end_at stage) (HasTicked hub state gives tells view seat)
  told_at seat clock stage is s = subst (λ (x : TickStage). IfSome (end_at x) (HasTicked hub state gives tells view seat)) is (told seat seat.stage s.amid)
