-- How a shared clock goes on, and what a call and a pause of one connection make of it.
use Rattle.std.proofs.Common.{◌≡◌, ℕ, ◌≤◌, sym, subst, arith}
use Rattle.grid_outside.specs.Told.{ClockView, Tick, to_tell, later_by, untold}
use Rattle.node_client.specs.ClockSteps.{PausesFor, Ticks}
use Rattle.hub_workers.specs.SharedClock.{Asked, not_asked, asked_on, Remembers, SharedTells}

module _ {C : Type 0} (tells : C → Tick → ℕ → C → Type 0) (view : C → ClockView) where
  pub asked_more : (a b c : C) → Asked tells view a b → Asked tells view b c → Asked tells view a c
  asked_more a b c p not_asked = p
  asked_more a b c p (asked_on middle new tick at q gave later) = asked_on middle new tick at (asked_more a b middle p q) gave later

  pub asked_once : (a b : C) (at : ℕ) → tells a to_tell at b → (view a).moment ≤ (view b).moment → Asked tells view a b
  asked_once a b at gave later = asked_on a b to_tell at not_asked gave later

  pub never_falls : (a b : C) → Asked tells view a b → (view a).moment ≤ (view b).moment
  never_falls a b not_asked = omega arith
  never_falls a b (asked_on middle new tick at p gave later) = omega (arith, never_falls a middle p, later)

  pub remembers_on : (clock later : C) (moment : ℕ) (last : C) → Asked tells view clock later → Remembers tells view clock moment last → Remembers tells view later moment last
  remembers_on clock later moment last asked r = record { since = asked_more last clock later r.since asked; moment_is = r.moment_is }

  -- it is told this, which it remembers
  pub remembers_now : (clock last : C) (at : ℕ) → last ≡ clock → at ≡ (view clock).moment → Remembers tells view clock at last
  remembers_now clock last at is told = record {
    since = subst (λ (x : C). Asked tells view x clock) (sym is) not_asked;
    moment_is = subst (λ (x : C). at ≡ (view x).moment) (sym is) told;
  }

  pub shared_ticks : (last clock later left : C) (at : ℕ) → Asked tells view last clock → tells clock to_tell at later → at ≡ (view later).moment →
      (view clock).moment ≤ (view later).moment → left ≡ later →
      Ticks (SharedTells tells view) last at left (untold (view last).moment) (untold (view left).moment)
  shared_ticks last clock later left at since gave told rises is = record {
    gave = (clock, since, subst (λ (x : C). tells clock to_tell at x) (sym is) gave);
    later = omega (arith, never_falls last clock since, rises, told);
    before = subst (λ (x : C). at ≤ (view x).moment) (sym is) (omega (arith, told));
    told = tt;
  }

  pub shared_pause : (ms : ℕ) (last clock later left : C) (at : ℕ) → Asked tells view last clock → tells clock to_tell at later → at ≡ (view later).moment →
      later_by (view last).moment ms ≤ at → left ≡ later →
      PausesFor (SharedTells tells view) ms last left (untold (view last).moment) (untold (view left).moment)
  shared_pause ms last clock later left at since gave told long is = record {
    at = at;
    gave = (clock, since, subst (λ (x : C). tells clock to_tell at x) (sym is) gave, long);
    long_enough = subst (λ (x : C). later_by (view last).moment ms ≤ (view x).moment) (sym is) (subst (λ (n : ℕ). later_by (view last).moment ms ≤ n) told long);
    told = tt;
  }
