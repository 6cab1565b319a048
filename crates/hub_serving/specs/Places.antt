-- A table of connections.
use Rattle.std.specs.Prelude.{ℕ, List, Option, None, All, IfSome, get_or, vec_capacity}
use Rattle.grid_outside.specs.Told.{ClockView, LinkView, Tick}
use Rattle.grid_outside.specs.declared.exchange.Ask.{Ask}
use Rattle.grid_outside.specs.Exchanges.{Came}
use Rattle.hub_cell.specs.declared.hub.SharedHub.{SharedHub}
use Rattle.hub_serving.specs.declared.seats.Seat.{Seat}
use Rattle.hub_serving.specs.declared.seats.places.Places.{Places}
use Rattle.hub_serving.specs.Tables.{IsSeated}

abbrev pub seats_of : {L N C : Type 0} → Places L N C → List (Option (Seat L N C))
seats_of places = places.seats.items

-- how many places there may be
abbrev pub room_of : {L N C : Type 0} → Places L N C → ℕ
room_of places = vec_capacity places.seats

-- who stands at a place, where there is such a place
abbrev pub stands_at : {A : Type 0} → List (Option A) → ℕ → Option A
stands_at seats place = get_or seats place None

module _ {L N S C : Type 0} (hub : SharedHub) (line_view : L → LinkView) (state : N → S) (gives : S → List ℕ → Ask → Came → S → Type 0)
    (asks : N → Option (List ℕ × Ask) → Type 0) (tells : C → Tick → ℕ → C → Type 0) (clock_view : C → ClockView) where
  -- each connection that stands at a place is seated over the clock
  abbrev pub AreSeated : C → Places L N C → Type 0
  AreSeated clock places =
      All (λ (seat : Option (Seat L N C)). IfSome seat (IsSeated hub line_view state gives asks tells clock_view clock))
      (seats_of places)
