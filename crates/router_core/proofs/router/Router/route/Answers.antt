use Rattle.std.proofs.Common.{ap, sym, ◌∙◌, ok_or, Option}
use Rattle.router_core.specs.Routes.{Route, place_of}
use Rattle.router_core.specs.declared.routed.RouteFault.TheVariants as fault
use Rattle.router_core.proofs.SamePlace.{route-found, route-missing, no_place}
use Rattle.router_core.proofs.router.Router.route.Goals as goal

pub returns-in-Some-asked-clause-ok : goal.returns-in-Some-asked-clause-ok
returns-in-Some-asked-clause-ok c =
    route-found c.in-Some.place c.method_of.result c.args.method.now c.args.target.now c.own_target-own.result.now c.path_of-path.result.now c.id.result.now
    c.own_target-own.ensures c.path_of-path.ensures c.method_of.ensures c.id.ensures (sym c.place_of.ensures ∙ c.in-Some.is)
    ∙ ap (λ (o : Option Route). ok_or o fault.UnknownMethod) (sym c.in-Some-asked.ensures)

pub returns-in-None-asked-clause-fault : goal.returns-in-None-asked-clause-fault
returns-in-None-asked-clause-fault c =
    route-found c.in-Some.place c.method_of.result c.args.method.now c.args.target.now c.own_target-own.result.now c.path_of-path.result.now c.id.result.now
    c.own_target-own.ensures c.path_of-path.ensures c.method_of.ensures c.id.ensures (sym c.place_of.ensures ∙ c.in-Some.is)
    ∙ ap (λ (o : Option Route). ok_or o fault.UnknownMethod) (sym c.in-None-asked.ensures)

pub returns-in-None-clause-fault : goal.returns-in-None-clause-fault
returns-in-None-clause-fault c =
    route-missing c.args.method.now c.args.target.now c.own_target-own.result.now c.path_of-path.result.now c.own_target-own.ensures c.path_of-path.ensures
    (no_place (place_of c.path_of-path.result.now) (sym c.place_of.ensures ∙ c.in-None.is))
