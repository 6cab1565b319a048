-- That a connection stays seated while others ask the clock.
use Rattle.std.proofs.Common.{◌∙◌, refl}
use Rattle.std.specs.Prelude.{ℕ, List, Option, None, Some, IfSome}
use Rattle.grid_outside.specs.Told.{ClockView, LinkView, Tick}
use Rattle.grid_outside.specs.declared.exchange.Ask.{Ask}
use Rattle.grid_outside.specs.Exchanges.{Came}
use Rattle.hub_cell.specs.declared.hub.SharedHub.{SharedHub}
use Rattle.hub_serving.specs.declared.seats.Seat.{Seat}
use Rattle.hub_workers.specs.SharedClock.{Asked}
use Rattle.hub_workers.specs.ClockLaws.{remembers_on}
use Rattle.hub_serving.specs.Tables.{IsSeated, SitsOn, StaysAt, StillAt}

module _ {L N S C : Type 0} (hub : SharedHub) (line_view : L → LinkView) (state : N → S) (gives : S → List ℕ → Ask → Came → S → Type 0)
    (asks : N → Option (List ℕ × Ask) → Type 0) (tells : C → Tick → ℕ → C → Type 0) (clock_view : C → ClockView) where
  pub seated_on : (clock later : C) (seat : Seat L N C) → Asked tells clock_view clock later →
      IsSeated hub line_view state gives asks tells clock_view clock seat → IsSeated hub line_view state gives asks tells clock_view later seat
  seated_on clock later seat asked s = record {
    own = s.own;
    served = s.served;
    remembers = remembers_on tells clock_view clock later seat.moment seat.last.value asked s.remembers;
  }

  pub sits_on : (clock later : C) (old new : Seat L N C) → Asked tells clock_view clock later →
      SitsOn hub line_view state gives asks tells clock_view clock old new → SitsOn hub line_view state gives asks tells clock_view later old new
  sits_on clock later old new asked s = record { same = s.same; seated = seated_on clock later new asked s.seated }

  -- ---- at a place of a table

  abbrev pub At : C → Option (Seat L N C) → Type 0
  At clock o = IfSome o (IsSeated hub line_view state gives asks tells clock_view clock)

  abbrev pub Stays : C → Option (Seat L N C) → Option (Seat L N C) → Type 0
  Stays clock = StaysAt hub line_view state gives asks tells clock_view clock

  abbrev pub Still : Option (Seat L N C) → Option (Seat L N C) → Type 0
  Still = StillAt hub line_view state gives asks tells clock_view

  pub at_on : (clock later : C) (o : Option (Seat L N C)) → Asked tells clock_view clock later → At clock o → At later o
  at_on clock later None asked x = tt
  at_on clock later (Some seat) asked x = seated_on clock later seat asked x

  pub stays_same : (clock : C) (o : Option (Seat L N C)) → At clock o → Stays clock o o
  stays_same clock None x = tt
  stays_same clock (Some seat) x = record { same = refl; seated = x }

  pub stays_more : (clock : C) (a b c : Option (Seat L N C)) → Stays clock a b → Stays clock b c → Stays clock a c
  stays_more clock None None None p q = tt
  stays_more clock None None (Some z) p q = absurd q
  stays_more clock None (Some y) c p q = absurd p
  stays_more clock (Some x) None c p q = absurd p
  stays_more clock (Some x) (Some y) None p q = absurd q
  stays_more clock (Some x) (Some y) (Some z) p q = record { same = q.same ∙ p.same; seated = q.seated }

  pub stays_right : (clock : C) (a b : Option (Seat L N C)) → Stays clock a b → At clock b
  stays_right clock None None p = tt
  stays_right clock None (Some y) p = absurd p
  stays_right clock (Some x) None p = tt
  stays_right clock (Some x) (Some y) p = p.seated
