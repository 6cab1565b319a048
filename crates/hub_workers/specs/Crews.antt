-- What a crew did.
use Rattle.std.specs.Prelude.{◌≡◌, ◌⊎◌, ℕ, true, List, ◌++◌, All, map, Result, Ok, Err}
use mathlib.Core.List.{IsPrefix}
use Rattle.grid_types.specs.Legal.{legal}
use Rattle.grid_types.specs.Safe.{IsSafe}
use Rattle.grid_outside.specs.Told.{ClockView, Tick}
use Rattle.grid_outside.specs.declared.exchange.Ask.{Ask}
use Rattle.grid_outside.specs.Exchanges.{Came}
use Rattle.turn_cell.specs.Steps.{ended_of}
use Rattle.hub_cell.specs.declared.hub.SharedHub.{SharedHub}
use Rattle.hub_cell.specs.Passes.{config_of}
use Rattle.hub_cell.specs.Shared.{past}
use Rattle.hub_workers.specs.declared.ends.WorkerEnd.{WorkerEnd}
use Rattle.hub_workers.specs.Turns.{Worked, WorkerSpent, WorkerTurn}
use Rattle.hub_workers.specs.World.{Knowledge}
use Rattle.hub_workers.specs.declared.tools.CrewFault.{CrewFault}
use Rattle.hub_workers.specs.declared.tools.CrewFault.TheVariants as fault
use Rattle.hub_workers.specs.declared.tools.Tool.{Tool}
use Rattle.hub_workers.specs.Hands.{CountsSpent, GoesOn, IsFresh, world_with}

-- one worker: what its pass knew and its tool, before and after, and how it ended
pub record Stint (T : Type 0) : Type 0 where
  pub known : Knowledge
  pub tool : T
  pub end : WorkerEnd
  pub known_after : Knowledge
  pub tool_after : T

-- passes that were split off and did nothing
pub record Idlers (old new : Knowledge) : Type 0 where
  pub passes : List Knowledge
  pub each : All (λ v. IsFresh v × IsPrefix old.seen v.seen) passes
  pub ended : new.ended ≡ old.ended ++ map ended_of passes

module _ {N C : Type 0} (hub : SharedHub) (gives : N → List ℕ → Ask → Came → N → Type 0) (tells : C → Tick → ℕ → C → Type 0) (shows : C → ClockView) (turns : ℕ) where
  -- From a pass that was split off behind all that the crew's pass had seen, a worker made its turns, or as many as the
  -- hub had tickets for. What it has seen is legal and safe.
  pub record IsStint (before : Knowledge) (s : Stint (Tool N C)) : Type 0 where
    pub fresh : IsFresh s.known
    pub behind : IsPrefix before.seen s.known.seen
    pub worked : Worked hub gives tells WorkerTurn WorkerSpent turns
        (world_with shows s.known s.tool) s.end (world_with shows s.known_after s.tool_after)
    pub is_legal : legal (config_of hub) (past s.known_after) ≡ true
    pub is_safe : IsSafe (past s.known_after)

  -- there is a stint for each tool, in order, and the passes of these stints alone ended
  pub record AllWorked (old : Knowledge) (tools : List (Tool N C)) (new : Knowledge) (tools_after : List (Tool N C)) : Type 0 where
    pub stints : List (Stint (Tool N C))
    pub each : All (IsStint old) stints
    pub tools_are : map (λ s. s.tool) stints ≡ tools
    pub tools_after_are : map (λ s. s.tool_after) stints ≡ tools_after
    pub ended : new.ended ≡ old.ended ++ map (λ s. ended_of s.known_after) stints

  -- no worker began
  pub record NoneWorked (old : Knowledge) (tools : List (Tool N C)) (new : Knowledge) (tools_after : List (Tool N C)) : Type 0 where
    pub idlers : Idlers old new
    pub tools_are : tools_after ≡ tools

  abbrev pub WorkedSo : Knowledge → List (Tool N C) → Result (Unit {0}) CrewFault → Knowledge → List (Tool N C) → Type 0
  WorkedSo old tools (Ok u) new tools_after = AllWorked old tools new tools_after
  WorkedSo old tools (Err fault.Memory) new tools_after = NoneWorked old tools new tools_after
  WorkedSo old tools (Err (fault.Spent s)) new tools_after = AllWorked old tools new tools_after ⊎ NoneWorked old tools new tools_after

  -- Spent is answered exactly where the count of spent looks rose
  pub record CrewDid (old : Knowledge) (tools : List (Tool N C)) (result : Result (Unit {0}) CrewFault) (new : Knowledge) (tools_after : List (Tool N C)) : Type 0 where
    pub goes : GoesOn old new
    pub worked : WorkedSo old tools result new tools_after
    pub spent : CountsSpent old.spent result new.spent
