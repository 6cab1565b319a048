-- Workers of a crew, each with a pass and a tool.
use Rattle.std.specs.Prelude.{◌≡◌, ℕ, ◌+◌, ◌<◌, true, List, [], ◌∷◌, ◌++◌, All, Option, None, Some, Result, Ok, Err}
use mathlib.Core.List.{IsPrefix}
use Rattle.grid_types.specs.declared.entry.Entry.{Entry}
use Rattle.grid_types.specs.declared.spent.Spent.{Spent}
use Rattle.grid_types.specs.Legal.{legal}
use Rattle.grid_types.specs.Lists.{total}
use Rattle.grid_types.specs.Safe.{IsSafe}
use Rattle.grid_outside.specs.Told.{ClockView, Tick}
use Rattle.grid_outside.specs.declared.exchange.Ask.{Ask}
use Rattle.grid_outside.specs.Exchanges.{Came}
use Rattle.turn_cell.specs.declared.views.Ended.{Ended}
use Rattle.turn_cell.specs.Steps.{ended_of}
use Rattle.hub_cell.specs.declared.hub.Pass.{Pass}
use Rattle.hub_cell.specs.declared.hub.SharedHub.{SharedHub}
use Rattle.hub_cell.specs.Passes.{IsOf, config_of, knows}
use Rattle.hub_cell.specs.Shared.{KeepsAll, past}
use Rattle.hub_workers.specs.declared.ends.WorkerEnd.TheVariants as ends
use Rattle.hub_workers.specs.Turns.{Worked, WorkerSpent, WorkerTurn, spent_after}
use Rattle.hub_workers.specs.World.{Knowledge, World, world_of}
use Rattle.hub_workers.specs.declared.hands.Hand.{Hand}
use Rattle.hub_workers.specs.declared.tools.CrewFault.{CrewFault}
use Rattle.hub_workers.specs.declared.tools.CrewFault.TheVariants as fault
use Rattle.hub_workers.specs.declared.tools.Tool.{Tool}

-- a pass that was split off and has done nothing yet
pub record IsFresh (v : Knowledge) : Type 0 where
  pub mine : v.mine ≡ []
  pub points : v.points ≡ []
  pub spent : v.spent ≡ 0
  pub ended : v.ended ≡ []

-- What a crew's pass knew and knows: it has made nothing of its own in between, has seen no less, and has its tokens still.
pub record GoesOn (old new : Knowledge) : Type 0 where
  pub number : new.number ≡ old.number
  pub mine : new.mine ≡ old.mine
  pub longer : IsPrefix old.seen new.seen
  pub keeps : KeepsAll old new

-- a count of spent looks, after a crew that ended so
abbrev pub CountsSpent : ℕ → Result (Unit {0}) CrewFault → ℕ → Type 0
CountsSpent before (Ok u) after = after ≡ before
CountsSpent before (Err fault.Memory) after = after ≡ before
CountsSpent before (Err (fault.Spent s)) after = before < after

-- where it is said that the hub is spent, the count rose
abbrev pub MayRise : ℕ → Option Spent → ℕ → Type 0
MayRise before None after = after ≡ before
MayRise before (Some s) after = before < after

-- the same after a pass was split off
abbrev pub CountsSplit : ℕ → Result Pass CrewFault → ℕ → Type 0
CountsSplit before (Ok p) after = after ≡ before
CountsSplit before (Err fault.Memory) after = after ≡ before
CountsSplit before (Err (fault.Spent s)) after = before < after

abbrev pub FreshIfOk : SharedHub → Knowledge → Result Pass CrewFault → Type 0
FreshIfOk hub old (Ok p) = IsOf hub p × IsFresh (knows p) × IsPrefix old.seen (knows p).seen
FreshIfOk hub old (Err e) = Unit {0}

pub record IsSplitOff (hub : SharedHub) (old : Knowledge) (result : Result Pass CrewFault) (new : Knowledge) : Type 0 where
  pub goes : GoesOn old new
  pub ended : new.ended ≡ old.ended
  pub spent : CountsSplit old.spent result new.spent
  pub fresh : FreshIfOk hub old result

-- f of each, the last one first, before the rest
abbrev pub backwards : {X Y : Type 0} → (X → Y) → List X → List Y → List Y
backwards f [] rest = rest
backwards f (x ∷ xs) rest = backwards f xs (f x ∷ rest)

module _ {N C : Type 0} where
  abbrev pub tool_of : Hand N C → Tool N C
  tool_of hand = hand.tool

  -- what is left of the pass of a worker
  abbrev pub left_by : Hand N C → Ended
  left_by hand = ended_of (knows hand.pass)

  -- a worker that has not begun
  pub record IsReady (hub : SharedHub) (hand : Hand N C) : Type 0 where
    pub own : IsOf hub hand.pass
    pub fresh : IsFresh (knows hand.pass)
    pub unbegun : hand.end ≡ ends.TurnsDone

  -- its pass may be joined: it has joined none itself, and counted a spent look where the worker ended so
  pub record MayEnd (hub : SharedHub) (hand : Hand N C) : Type 0 where
    pub own : IsOf hub hand.pass
    pub ended : (knows hand.pass).ended ≡ []
    pub spent : (knows hand.pass).spent ≡ spent_after 0 hand.end

  -- how many spent looks their passes have counted
  abbrev pub spends : List (Hand N C) → ℕ
  spends hands = total (λ h. (knows h.pass).spent) hands

  -- the pass was split off behind this point of the history
  abbrev pub IsBehind : List Entry → Hand N C → Type 0
  IsBehind before hand = IsPrefix before (knows hand.pass).seen

  -- the tools that are left and those of the workers are all tools, in order
  pub record IsHired (hub : SharedHub) (old : Knowledge) (tools : List (Tool N C)) (result : Result (Unit {0}) CrewFault)
      (new : Knowledge) (tools_left : List (Tool N C)) (hands : List (Hand N C)) : Type 0 where
    pub goes : GoesOn old new
    pub ended : new.ended ≡ old.ended
    pub spent : CountsSpent old.spent result new.spent
    pub tools_are : tools_left ++ backwards tool_of hands [] ≡ tools
    pub ready : All (IsReady hub) hands
    pub behind : All (IsBehind old.seen) hands

  -- the tools are back, and the passes ended, the last worker's first
  pub record IsBack (old : Knowledge) (tools : List (Tool N C)) (hands : List (Hand N C)) (spent : Option Spent)
      (new : Knowledge) (tools_after : List (Tool N C)) : Type 0 where
    pub goes : GoesOn old new
    pub ended : new.ended ≡ old.ended ++ backwards left_by hands []
    pub spends_are : new.spent ≡ old.spent + spends hands
    pub spent_is : MayRise old.spent spent new.spent
    pub tools_are : tools_after ≡ tools ++ backwards tool_of hands []

-- what a pass knows, and what it works with
abbrev pub world_with : {N C : Type 0} → (C → ClockView) → Knowledge → Tool N C → World N C
world_with shows known tool = world_of known tool.nodes tool.clock (shows tool.clock)

module _ {N C : Type 0} (hub : SharedHub) (gives : N → List ℕ → Ask → Came → N → Type 0) (tells : C → Tick → ℕ → C → Type 0) (shows : C → ClockView) where
  -- a worker made its turns
  pub record HandDid (turns : ℕ) (old new : Hand N C) : Type 0 where
    pub fresh : IsFresh (knows old.pass)
    pub ends : MayEnd hub new
    pub worked : Worked hub gives tells WorkerTurn WorkerSpent turns
        (world_with shows (knows old.pass) old.tool) new.end (world_with shows (knows new.pass) new.tool)
    pub is_legal : legal (config_of hub) (past (knows new.pass)) ≡ true
    pub is_safe : IsSafe (past (knows new.pass))
