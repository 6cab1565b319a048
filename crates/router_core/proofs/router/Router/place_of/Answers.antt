use Rattle.std.proofs.Common.{◌≡◌, ap, sym, ◌∙◌, List, ℕ, Option, option_map}
use Rattle.matchit.specs.Rows.{RowsOf}
use Rattle.matchit.specs.Router.{RouteOf}
use Rattle.matchit.specs.Seek.{first}
use Rattle.router_core.specs.declared.place.Place.{Place}
use Rattle.router_core.specs.Rows.{rows}
use Rattle.router_core.proofs.SamePlace.{AreBytes-fits, place_of-text, place_of-other}
use Rattle.router_core.proofs.router.Router.place_of.Goals as goal

pub returns-in-Ok : goal.returns-in-Ok
returns-in-Ok c =
    let valid = c.in-Ok.ensures.cases in
    let table = place_of-text c.args.path.now valid.1 (AreBytes-fits c.args.path.now c.type_inv.path) in
    let walked : option_map (λ (r : RouteOf Place). r.value) (first rows c.args.path.now) ≡ c.find.result =
    ap (λ (q : List ℕ). option_map (λ (r : RouteOf Place). r.value) (first rows q)) (sym valid.0)
    ∙ ap (λ (rs : RowsOf (RouteOf Place)). option_map (λ (r : RouteOf Place). r.value) (first rs c.in-Ok.path.now)) (sym c.args.self.now.are_rows)
    ∙ sym c.find.ensures in
    sym (table ∙ walked)

pub returns-in-Err : goal.returns-in-Err
returns-in-Err c = ap (λ (o : Option (Place × List (List ℕ))). option_map (λ (f : Place × List (List ℕ)). f.0) o) (sym (place_of-other c.args.path.now c.in-Err.ensures.cases.0))
