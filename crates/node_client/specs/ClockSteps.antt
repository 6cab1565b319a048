-- What a clock tells at one step.
use Rattle.std.proofs.Common.{◌≡◌, ℕ, ◌≤◌, [], refl, ◌∙◌, arith}
use Rattle.std.specs.Prelude.{Option, None, Some, IfSome}
use Rattle.grid_outside.specs.Told.{ClockView, Pauses, Tick, later_by, paused, to_tell, to_wait}
use Rattle.node_client.specs.Runs.{KeepsTime, Still, Timed, pauses_after}

-- a clock that was not asked kept time
pub keeps_time_none : (time : ClockView) → KeepsTime time [] time
unfolding Timed Still pauses_after
keeps_time_none time = record { timed = omega arith; told = by_pauses time.pauses refl }
  where
    by_pauses : (o : Option Pauses) → time.pauses ≡ o → IfSome o (λ p. (time.pauses ≡ Some p) × (time.moment ≡ time.moment))
    by_pauses None e = tt
    by_pauses (Some p) e = (e, refl)

-- what the clock gave at a call that followed
pub record Ticks {C : Type 0} (tells : C → Tick → ℕ → C → Type 0) (m : C) (at : ℕ) (m' : C) (time time' : ClockView) : Type 0 where
  pub gave : tells m to_tell at m'
  pub later : time.moment ≤ at
  pub before : at ≤ time'.moment
  pub told : IfSome time.pauses (λ p. (time'.pauses ≡ Some p) × ((at ≡ time.moment) × (time'.moment ≡ time.moment)))

pub ticked : {C : Type 0} (tells : C → Tick → ℕ → C → Type 0) (m : C) (at : ℕ) (m' : C) (time time' : ClockView) → tells m to_tell at m' →
    at ≡ time'.moment → time.moment ≤ time'.moment → IfSome time.pauses (λ p. (time'.pauses ≡ Some p) × (time'.moment ≡ time.moment)) → Ticks tells m at m' time time'
ticked tells m at m' time time' gave is later still =
    record { gave = gave; later = omega (arith, is, later); before = omega (arith, is); told = by_pauses time.pauses still }
  where
    by_pauses : (o : Option Pauses) → IfSome o (λ p. (time'.pauses ≡ Some p) × (time'.moment ≡ time.moment)) →
        IfSome o (λ p. (time'.pauses ≡ Some p) × ((at ≡ time.moment) × (time'.moment ≡ time.moment)))
    by_pauses None h = tt
    by_pauses (Some p) h = (h.0, (is ∙ h.1, h.1))

-- a pause of the clock
pub record PausesFor {C : Type 0} (tells : C → Tick → ℕ → C → Type 0) (ms : ℕ) (m m' : C) (time time' : ClockView) : Type 0 where
  pub at : ℕ
  pub gave : tells m (to_wait ms) at m'
  pub long_enough : later_by time.moment ms ≤ time'.moment
  pub told : IfSome time.pauses (λ p. (time'.pauses ≡ Some (paused ms p)) × (time'.moment ≡ later_by time.moment ms))
