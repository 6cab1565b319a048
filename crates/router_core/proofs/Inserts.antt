-- What an insert that succeeds leaves.
use Rattle.std.proofs.Common.{◌≡◌, Ok, Err, Result, ap, ◌∙◌}
use Rattle.matchit.specs.Rows.{RowsOf}
use Rattle.matchit.specs.Route.{Scan}
use Rattle.matchit.specs.Router.{RouteOf, InsertsRead}
use Rattle.matchit.specs.declared.error.InsertError.{InsertError}
use Rattle.router_core.specs.declared.place.Place.{Place}
use Rattle.router_core.specs.Rows.{with_route}

pub inserted : (x : Result Scan InsertError) (p : Place) (old new : RowsOf (RouteOf Place)) (u : Unit {0})
    → InsertsRead x p old new (Ok u) → new ≡ with_route x p old
inserted (Ok s) p old new u h = h.1
inserted (Err e) p old new u h = h.0

-- the same behind an insert before it
pub inserted_after : (x : Result Scan InsertError) (p : Place) (old before new : RowsOf (RouteOf Place)) (u : Unit {0})
    → old ≡ before → InsertsRead x p old new (Ok u) → new ≡ with_route x p before
inserted_after x p old before new u same h = inserted x p old new u h ∙ ap (with_route x p) same
