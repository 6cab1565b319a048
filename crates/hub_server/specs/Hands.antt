-- A worker or a ticker with a clock of its own.
use Rattle.std.specs.Prelude.{ℕ, List, Option}
use Rattle.grid_outside.specs.Told.{ClockView, Tick}
use Rattle.grid_outside.specs.declared.exchange.Ask.{Ask}
use Rattle.grid_outside.specs.Exchanges.{Came}
use Rattle.hub_cell.specs.declared.hub.SharedHub.{SharedHub}
use Rattle.hub_workers.specs.WorkSeats.{IsAtWork}
use Rattle.hub_workers.specs.TickSeats.{IsAtTick}
use Rattle.hub_server.specs.declared.hands.Hand.{Hand}
use Rattle.hub_server.specs.declared.hands.Duty.{Duty}
use Rattle.hub_server.specs.declared.hands.Duty.TheVariants as duties

module _ {N S C : Type 0} (hub : SharedHub) (state : N → S) (gives : S → List ℕ → Ask → Came → S → Type 0)
    (asks : N → Option (List ℕ × Ask) → Type 0) (tells : C → Tick → ℕ → C → Type 0) (view : C → ClockView) where
  -- it is at what it is there for, by this clock
  abbrev pub IsAtDuty : C → Duty N C → Type 0
  IsAtDuty clock (duties.Work seat) = IsAtWork hub state gives asks tells view clock seat
  IsAtDuty clock (duties.Tick seat) = IsAtTick hub state gives asks tells view clock seat

  abbrev pub IsHand : Hand N C → Type 0
  IsHand hand = IsAtDuty hand.clock hand.duty
