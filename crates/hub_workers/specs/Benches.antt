-- What a worker or a ticker knows and has outside of it that shares its thread with others.
use Rattle.std.specs.Prelude.{ℕ}
use Rattle.grid_outside.specs.Told.{ClockView, Tick, untold}
use Rattle.hub_cell.specs.declared.hub.SharedHub.{SharedHub}
use Rattle.hub_cell.specs.Passes.{IsOf, knows}
use Rattle.hub_workers.specs.SharedClock.{Remembers}
use Rattle.hub_workers.specs.World.{World, world_of}
use Rattle.hub_workers.specs.declared.bench.Bench.{Bench}

-- What its pass knows, what its exchanges made of the nodes, and the clock as it left that when it asked last. A clock that is
-- shared is made to pause for nobody, so it tells no pauses.
abbrev pub now_of : {N S C : Type 0} (state : N → S) (view : C → ClockView) → Bench N C → World S C
now_of state view bench =
    world_of (knows bench.pass) (state bench.nodes) bench.last.value (untold (view bench.last.value).moment)

-- its pass is of the hub, and the clock was asked on since it was told its last moment
pub record Attends {N C : Type 0} (hub : SharedHub) (tells : C → Tick → ℕ → C → Type 0) (view : C → ClockView)
    (clock : C) (bench : Bench N C) : Type 0 where
  pub own : IsOf hub bench.pass
  pub remembers : Remembers tells view clock bench.moment bench.last.value
