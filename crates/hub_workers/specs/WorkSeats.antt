-- A worker that makes its turns step by step, with the pass and the nodes that it began with.
use Rattle.std.specs.Prelude.{◌≡◌, ℕ, List, None, Some, Option}
use Rattle.grid_outside.specs.Told.{ClockView, Tick}
use Rattle.grid_outside.specs.declared.exchange.Ask.{Ask}
use Rattle.grid_outside.specs.Exchanges.{Came}
use Rattle.hub_cell.specs.declared.hub.SharedHub.{SharedHub}
use Rattle.hub_cell.specs.declared.hub.Pass.{Pass}
use Rattle.node_client.specs.Steps.{Step}
use Rattle.hub_workers.specs.Amid.{Amid}
use Rattle.hub_workers.specs.Benches.{Attends, now_of}
use Rattle.hub_workers.specs.SharedClock.{SharedTells}
use Rattle.hub_workers.specs.WorkStages.{WorkSays, Works}
use Rattle.hub_workers.specs.Turns.{TellsLast, WorkerSpent, WorkerTurn, Worked, spent_after}
use Rattle.hub_workers.specs.World.{Went, World}
use Rattle.hub_workers.specs.declared.acts.WorkAct.{WorkAct}
use Rattle.hub_workers.specs.declared.ends.WorkerEnd.{WorkerEnd}
use Rattle.hub_workers.specs.declared.ends.WorkerEnd.TheVariants as ends
use Rattle.hub_workers.specs.declared.work_steps.WorkStage.{WorkStage}
use Rattle.hub_workers.specs.declared.work_steps.WorkStage.TheVariants as stages
use Rattle.hub_workers.specs.declared.work_seats.WorkSeat.{WorkSeat}

-- its pass, and what reaches its nodes
abbrev pub pass_of : {N C : Type 0} → WorkSeat N C → Pass
pass_of seat = seat.bench.pass

abbrev pub nodes_of : {N C : Type 0} → WorkSeat N C → N
nodes_of seat = seat.bench.nodes

-- how its last turn ended, where none is under way
abbrev pub end_at : WorkStage → Option WorkerEnd
end_at stages.Between = Some ends.TurnsDone
end_at (stages.Over s) = Some (ends.Spent s)
end_at stage = None

abbrev pub end_of : {N C : Type 0} → WorkSeat N C → Option WorkerEnd
end_of seat = end_at seat.stage

module _ {N S C : Type 0} (state : N → S) (view : C → ClockView) where
  -- what it knew and had outside of it when it began, and now
  abbrev pub first_of : WorkSeat N C → World S C
  first_of seat = now_of state view seat.first.value

  abbrev pub last_of : WorkSeat N C → World S C
  last_of seat = now_of state view seat.bench

module _ {N S C : Type 0} (hub : SharedHub) (state : N → S) (gives : S → List ℕ → Ask → Came → S → Type 0)
    (asks : N → Option (List ℕ × Ask) → Type 0) (tells : C → Tick → ℕ → C → Type 0) (view : C → ClockView) where
  -- Since it began it has made so many turns and steps of the next, and nothing else; and an exchange is under way just where it
  -- waits for one that this turn wants.
  pub record IsAtWork (clock : C) (seat : WorkSeat N C) : Type 0 where
    pub attends : Attends hub tells view clock seat.bench
    pub amid : Amid hub gives (SharedTells tells view) WorkerTurn (Works hub (asks seat.bench.nodes) seat.stage)
        (first_of state view seat) (last_of state view seat)

  -- it is the same worker, further on
  pub record WorksOn (clock : C) (old new : WorkSeat N C) : Type 0 where
    pub same : first_of state view new ≡ first_of state view old
    pub at_work : IsAtWork clock new

module _ {N S C : Type 0} (hub : SharedHub) (state : N → S) (gives : S → List ℕ → Ask → Came → S → Type 0)
    (tells : C → Tick → ℕ → C → Type 0) (view : C → ClockView) where
  -- what it did in one step, and what it says of that
  pub record WorkDid (clock : C) (old : WorkSeat N C) (act : WorkAct) (new : WorkSeat N C) : Type 0 where
    pub steps : List Step
    pub went : Went hub gives (SharedTells tells view) (last_of state view old) steps (last_of state view new)
    pub says : WorkSays act old.bench.moment (view clock).moment old.stage new.stage steps

  -- All that it did since it began is what a worker does that has its thread to itself: so many turns, the last of which found the
  -- hub spent where it ended so; and its pass counted that.
  pub record HasWorked (seat : WorkSeat N C) (end : WorkerEnd) : Type 0 where
    pub turns : ℕ
    pub worked : Worked hub gives (SharedTells tells view) WorkerTurn WorkerSpent turns (first_of state view seat) end
        (last_of state view seat)
    pub told : TellsLast hub end
    pub spent : (last_of state view seat).view.spent ≡ spent_after (first_of state view seat).view.spent end
