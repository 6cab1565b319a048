-- From the first turn of the driver of a start to the last.
use Rattle.std.proofs.Common.{ℕ, List, [], ◌∷◌, ◌++◌, sym, subst}
use Rattle.std.specs.Prelude.{Some, None, Result, Ok, Err}
use Rattle.grid_types.specs.Tokens.{Reservation}
use Rattle.grid_outside.specs.Told.{Tick}
use Rattle.grid_outside.specs.declared.exchange.Ask.{Ask}
use Rattle.grid_outside.specs.Exchanges.{Came}
use Rattle.grid_types.specs.declared.spent.Spent as spent
use Rattle.hub_cell.specs.declared.hub.SharedHub.{SharedHub}
use Rattle.node_client.specs.declared.wants.CarryEnd.{CarryEnd}
use Rattle.node_client.specs.declared.carry.Carry.{Carry}
use Rattle.node_client.specs.Steps.{Spent}
use Rattle.node_client.specs.Places.{Place, at_start, at_bind, at_return, at_fail, at_quit, at_free, at_end}
use Rattle.node_client.specs.StandLaws.{stands_leads}
use Rattle.node_client.specs.Carrying.{IsNew, IsFirst}
use Rattle.hub_workers.specs.Carried.{Carried, HasAt, IsUnder, Turned, UnderWay, spent_at}
use Rattle.hub_workers.specs.World.{Knowledge, Went, World}
use Rattle.hub_workers.specs.WorldLaws.{went_more, went_none}

module _ {N C : Type 0} (hub : SharedHub) (gives : N → List ℕ → Ask → Came → N → Type 0) (tells : C → Tick → ℕ → C → Type 0) where
  pub first_good : (v : Knowledge) (r : Reservation) (place : Place) → IsFirst place → HasAt v r at_start → HasAt v r place
  first_good v r at_start f good = good
  first_good v r (at_fail w) f good = good
  first_good v r (at_bind x cs) f good = absurd f
  first_good v r (at_return x) f good = absurd f
  first_good v r (at_quit c) f good = absurd f
  first_good v r (at_free c) f good = absurd f
  first_good v r (at_end e) f good = absurd f

  pub way_start : (r : Reservation) (w : World N C) (carry : Carry) → IsNew carry r → HasAt w.view r at_start → UnderWay hub gives tells r w carry w
  way_start r w carry new good = record { place = new.place; steps = []; stands = new.stands; good = first_good w.view r new.place new.begins good; went = went_none hub gives tells w }

  pub under : (r : Reservation) (u w : World N C) (carry : Carry) → UnderWay hub gives tells r u carry w → IsUnder carry w.view
  under r u w carry way = record { r = r; place = way.place; steps = way.steps; stands = way.stands; good = way.good }

  pub way_on : (r : Reservation) (u v w : World N C) (carry later : Carry) → UnderWay hub gives tells r u carry v → Turned hub gives tells carry v None later w → UnderWay hub gives tells r u later w
  way_on r u v w carry later way turned =
      let o = turned r way.place way.steps way.stands way.good in
      record { place = o.to; steps = way.steps ++ o.more; stands = o.stands; good = o.good; went = went_more hub gives tells u v w way.steps o.more way.went o.went }

  pub way_end : (r : Reservation) (u v w : World N C) (carry later : Carry) (end : Result CarryEnd spent.Spent) → UnderWay hub gives tells r u carry v → Turned hub gives tells carry v (Some end) later w →
      Carried hub gives tells r u end w
  way_end r u v w carry later (Ok e) way turned =
      let over = turned.1 r way.place way.steps way.stands in
      record {
        steps = way.steps;
        start = over.finished.start;
        bound_is = over.finished.bound_is;
        went = subst (λ (x : World N C). Went hub gives tells u way.steps x) (sym turned.0) way.went;
      }
  way_end r u v w carry later (Err s) way turned =
      let stop = turned r way.place way.steps way.stands in
      record {
        steps = way.steps ++ Spent stop.call stop.at ∷ [];
        start = spent_at way.steps way.place stop.call stop.at (stands_leads carry r way.place way.steps way.stands) stop.wanted;
        went = went_more hub gives tells u v w way.steps (Spent stop.call stop.at ∷ []) way.went stop.went;
      }
