-- The table of paths as the rows of the router.
use Rattle.std.specs.Prelude.{ℕ, List, [], Ok, Err, Result, codes}
use Rattle.matchit.specs.Rows.{RowsOf}
use Rattle.matchit.specs.Route.{parse_route, Scan}
use Rattle.matchit.specs.Router.{RouteOf, route_from}
use Rattle.matchit.specs.Order.{placed}
use Rattle.matchit.specs.declared.error.InsertError.{InsertError}
use Rattle.wd_bodies.specs.declared.paths.TheConstants.{NODES, SESSIONS, STATUS}
use Rattle.router_core.specs.declared.place.Place.{Place}
use Rattle.router_core.specs.declared.place.Place.TheVariants as place

-- the rows with the route of this text, in its place
abbrev pub with_route : Result Scan InsertError → Place → RowsOf (RouteOf Place) → RowsOf (RouteOf Place)
with_route (Ok s) p old = placed ((route_from s p).pattern, route_from s p) old
with_route (Err e) p old = old

abbrev pub with : List ℕ → Place → RowsOf (RouteOf Place) → RowsOf (RouteOf Place)
with text p old = with_route (parse_route text) p old

unfoldable pub rows : RowsOf (RouteOf Place)
rows =
    with (codes "/se/grid/distributor/node/{id}/beat") place.Beat
    (with (codes "/se/grid/distributor/node/{id}/drain") place.Drain
    (with (codes "/se/grid/distributor/node/{id}") place.OneNode
    (with NODES.now place.Nodes
    (with (codes "/se/grid/newsessionqueue/queue") place.Queue
    (with STATUS.now place.Status
    (with (codes "/session/{id}/{*rest}") place.Commands
    (with (codes "/session/{id}") place.OneSession
    (with SESSIONS.now place.Session []))))))))
