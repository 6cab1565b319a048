-- A clock that the connections of one thread share: each is told a moment that the clock gave behind whatever the others asked.
use Rattle.std.specs.Prelude.{◌≡◌, ℕ, ◌≤◌}
use Rattle.grid_outside.specs.Told.{ClockView, Tick, to_tell, to_wait, later_by}

-- From the one state to the other it was asked so often as it may be, by whomever, and its moments never fell.
pub data Asked {C : Type 0} (tells : C → Tick → ℕ → C → Type 0) (view : C → ClockView) (old : C) : C → Type 0 where
  not_asked : Asked tells view old old
  asked_on : (middle new : C) (tick : Tick) (at : ℕ) → Asked tells view old middle → tells middle tick at new →
      (view middle).moment ≤ (view new).moment → Asked tells view old new

-- What one of them is told. It waits until the clock gives a moment so much later than the last that this one was told.
abbrev pub SharedTells : {C : Type 0} → (C → Tick → ℕ → C → Type 0) → (C → ClockView) → C → Tick → ℕ → C → Type 0
SharedTells {C} tells view old to_tell at new =
    (middle : C) × Asked tells view old middle × tells middle to_tell at new
SharedTells {C} tells view old (to_wait ms) at new =
    (middle : C) × Asked tells view old middle × tells middle to_tell at new × (later_by (view old).moment ms ≤ at)

-- One of them remembers the moment that it was told last, and the state in which it left the clock then; the clock was asked
-- on from there.
pub record Remembers {C : Type 0} (tells : C → Tick → ℕ → C → Type 0) (view : C → ClockView) (clock : C) (moment : ℕ) (last : C) : Type 0 where
  pub since : Asked tells view last clock
  pub moment_is : moment ≡ (view last).moment
