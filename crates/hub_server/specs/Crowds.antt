-- The connections of one loop.
use Rattle.std.specs.Prelude.{ℕ, List, Option, All, IfSome}
use Rattle.grid_outside.specs.Told.{ClockView, LinkView, Tick}
use Rattle.grid_outside.specs.declared.exchange.Ask.{Ask}
use Rattle.grid_outside.specs.Exchanges.{Came}
use Rattle.hub_cell.specs.declared.hub.SharedHub.{SharedHub}
use Rattle.hub_cell.specs.Passes.{IsOf}
use Rattle.hub_serving.specs.Places.{AreSeated}
use Rattle.hub_server.specs.declared.crowd.Crowd.{Crowd}

-- each connection is seated over the loop's clock, and all passes at hand are of the hub
pub record IsCrowd {L N S C : Type 0} (hub : SharedHub) (line_view : L → LinkView) (state : N → S)
    (gives : S → List ℕ → Ask → Came → S → Type 0) (asks : N → Option (List ℕ × Ask) → Type 0)
    (tells : C → Tick → ℕ → C → Type 0) (clock_view : C → ClockView) (crowd : Crowd L N C) : Type 0 where
  pub seated : AreSeated hub line_view state gives asks tells clock_view crowd.clock crowd.places
  pub root : IsOf hub crowd.root
  pub reader : IfSome crowd.reader (IsOf hub)
  pub passes : All (IsOf hub) crowd.passes.items
