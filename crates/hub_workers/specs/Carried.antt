-- A start that was carried to its end on the shared hub, or until that was spent.
use Rattle.std.specs.Prelude.{◌≡◌, ℕ, List, [], ◌∷◌, ◌++◌, Option, None, Some, Result, Ok, Err}
use Rattle.grid_types.specs.Tokens.{Reservation}
use Rattle.grid_types.specs.Calls.{Call}
use Rattle.grid_outside.specs.Told.{Tick}
use Rattle.grid_outside.specs.declared.exchange.Ask.{Ask}
use Rattle.grid_outside.specs.Exchanges.{Came}
use Rattle.grid_types.specs.declared.spent.Spent as spent
use Rattle.hub_cell.specs.declared.hub.SharedHub.{SharedHub}
use Rattle.hub_cell.specs.Shared.{past}
use Rattle.node_client.specs.declared.wants.CarryEnd.{CarryEnd}
use Rattle.node_client.specs.declared.carry.Carry.{Carry}
use Rattle.node_client.specs.Steps.{Step, Spent, bound_one}
use Rattle.node_client.specs.Start.{Start}
use Rattle.node_client.specs.Places.{Place, Leads, at_end, IsGoodAt, is_bound_end, wanted_at, to_call}
use Rattle.node_client.specs.Carrying.{Stands, Finished}
use Rattle.hub_workers.specs.World.{Knowledge, Went, World}

-- a start of which a call found the hub spent
pub data SpentStart (r : Reservation) : List Step → Type 0 where
  spent_at : (steps : List Step) (place : Place) (call : Call) (at : ℕ) →
      Leads r place steps → wanted_at r place ≡ to_call call →
      SpentStart r (steps ++ Spent call at ∷ [])

-- what a start of the pass holds there is good by what the pass has seen
abbrev pub HasAt : Knowledge → Reservation → Place → Type 0
HasAt known r place = IsGoodAt (past known) known.number r place

-- somewhere in a start, and what it holds is good
pub record IsUnder (carry : Carry) (known : Knowledge) : Type 0 where
  pub r : Reservation
  pub place : Place
  pub steps : List Step
  pub stands : Stands carry r place steps
  pub good : HasAt known r place

-- a start that stands for these steps is at its end
pub record IsOver (e : CarryEnd) (r : Reservation) (place : Place) (steps : List Step) : Type 0 where
  pub finished : Finished e r steps
  pub place_is : place ≡ at_end e

module _ {N C : Type 0} (hub : SharedHub) (gives : N → List ℕ → Ask → Came → N → Type 0) (tells : C → Tick → ℕ → C → Type 0) where
  -- the start and the world have gone on by the same steps
  pub record OnwardBy (r : Reservation) (steps : List Step) (old : World N C) (carry : Carry) (new : World N C) : Type 0 where
    pub to : Place
    pub more : List Step
    pub stands : Stands carry r to (steps ++ more)
    pub good : HasAt new.view r to
    pub went : Went hub gives tells old more new

  -- the call that was wanted found the hub spent
  pub record StoppedAt (r : Reservation) (place : Place) (old new : World N C) : Type 0 where
    pub call : Call
    pub at : ℕ
    pub wanted : wanted_at r place ≡ to_call call
    pub went : Went hub gives tells old (Spent call at ∷ []) new

  abbrev pub Turned : Carry → World N C → Option (Result CarryEnd spent.Spent) → Carry → World N C → Type 0
  Turned old before None new after =
      (r : Reservation) (place : Place) (steps : List Step) → Stands old r place steps → HasAt before.view r place →
      OnwardBy r steps before new after
  Turned old before (Some (Ok e)) new after =
      (after ≡ before) × ((r : Reservation) (place : Place) (steps : List Step) → Stands old r place steps → IsOver e r place steps)
  Turned old before (Some (Err s)) new after =
      (r : Reservation) (place : Place) (steps : List Step) → Stands old r place steps → StoppedAt r place before after

  -- on the way
  pub record UnderWay (r : Reservation) (old : World N C) (carry : Carry) (new : World N C) : Type 0 where
    pub place : Place
    pub steps : List Step
    pub stands : Stands carry r place steps
    pub good : HasAt new.view r place
    pub went : Went hub gives tells old steps new

  -- the steps by which the world went on are a start of the reservation, which ended as the hub answered
  pub record CarriedOut (r : Reservation) (old : World N C) (e : CarryEnd) (new : World N C) : Type 0 where
    pub steps : List Step
    pub start : Start r steps
    pub bound_is : bound_one steps ≡ is_bound_end e
    pub went : Went hub gives tells old steps new

  -- they are one up to a call that found the hub spent
  pub record CarriedOff (r : Reservation) (old new : World N C) : Type 0 where
    pub steps : List Step
    pub start : SpentStart r steps
    pub went : Went hub gives tells old steps new

  abbrev pub Carried : Reservation → World N C → Result CarryEnd spent.Spent → World N C → Type 0
  Carried r old (Ok e) new = CarriedOut r old e new
  Carried r old (Err s) new = CarriedOff r old new
