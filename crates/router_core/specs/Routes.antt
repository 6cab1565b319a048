-- The table of paths and methods.
use Rattle.std.specs.Prelude.{ℕ, cond, List, [], ◌∷◌, Option, Some, None, option_map, Result, Err, ok_or, codes, bytes_eq}
use Rattle.std.specs.Str.{is_utf8}
use Rattle.grid_types.specs.Lists.{or_else}
use Rattle.wd_bodies.specs.declared.paths.TheConstants.{BEFORE_NODE, BEFORE_SESSION, NODES, SESSIONS, STATUS}
use Rattle.router_core.specs.Patterns.{Piece, text, part, rest, parts_by}
use Rattle.router_core.specs.Targets.{own_target, path_of}
use Rattle.router_core.specs.declared.place.Place.{Place}
use Rattle.router_core.specs.declared.place.Place.TheVariants as place
use Rattle.router_core.specs.declared.place.Method.{Method}
use Rattle.router_core.specs.declared.place.Method.TheVariants as method
use Rattle.router_core.specs.declared.routed.Routed.{Routed}
use Rattle.router_core.specs.declared.routed.Routed.TheVariants as routed
use Rattle.router_core.specs.declared.routed.RouteFault.{RouteFault}
use Rattle.router_core.specs.declared.routed.RouteFault.TheVariants as fault

-- what a request asks for, with the id that its path names, or the target that is passed on
pub data Route : Type 0 where
  new_session : Route
  delete_session : List ℕ → Route
  relay : List ℕ → List ℕ → Route
  status : Route
  queue : Route
  clear_queue : Route
  register : Route
  remove : List ℕ → Route
  drain : List ℕ → Route
  beat : List ℕ → Route

-- a route by what its slices hold
abbrev pub route_told : Routed → Route
route_told routed.NewSession = new_session
route_told (routed.DeleteSession id) = delete_session id.now
route_told (routed.Relay id target) = relay id.now target.now
route_told routed.Status = status
route_told routed.Queue = queue
route_told routed.ClearQueue = clear_queue
route_told routed.Register = register
route_told (routed.Remove id) = remove id.now
route_told (routed.Drain id) = drain id.now
route_told (routed.Beat id) = beat id.now

-- the paths
abbrev pub paths : List (List Piece × Place)
paths =
    (text BEFORE_NODE.now ∷ part ∷ text (codes "/beat") ∷ [], place.Beat)
    ∷ (text BEFORE_NODE.now ∷ part ∷ text (codes "/drain") ∷ [], place.Drain)
    ∷ (text BEFORE_NODE.now ∷ part ∷ [], place.OneNode)
    ∷ (text NODES.now ∷ [], place.Nodes)
    ∷ (text (codes "/se/grid/newsessionqueue/queue") ∷ [], place.Queue)
    ∷ (text BEFORE_SESSION.now ∷ part ∷ text (codes "/") ∷ rest ∷ [], place.Commands)
    ∷ (text BEFORE_SESSION.now ∷ part ∷ [], place.OneSession)
    ∷ (text SESSIONS.now ∷ [], place.Session)
    ∷ (text STATUS.now ∷ [], place.Status)
    ∷ []

-- the place of a path, and its parts
abbrev pub place_by : List (List Piece × Place) → List ℕ → Option (Place × List (List ℕ))
place_by [] path = None
place_by ((pattern, p) ∷ more) path = or_else (option_map (λ parts. (p, parts)) (parts_by pattern path)) (place_by more path)

-- the first part, or nothing
abbrev pub id_of : List (List ℕ) → List ℕ
id_of [] = []
id_of (id ∷ more) = id

-- the method of this name
abbrev pub method_named : List ℕ → Method
method_named name =
    cond (bytes_eq name (codes "GET")) method.Get
    (cond (bytes_eq name (codes "POST")) method.Post (cond (bytes_eq name (codes "DELETE")) method.Delete method.Other))

-- what a method asks for at a place, with the id of the place and the target
abbrev pub asked : Place → Method → List ℕ → List ℕ → Option Route
asked place.Session method.Post id target = Some new_session
asked place.OneSession method.Delete id target = Some (delete_session id)
asked place.Commands method.Get id target = Some (relay id target)
asked place.Commands method.Post id target = Some (relay id target)
asked place.Commands method.Delete id target = Some (relay id target)
asked place.Status method.Get id target = Some status
asked place.Queue method.Get id target = Some queue
asked place.Queue method.Delete id target = Some clear_queue
asked place.Nodes method.Post id target = Some register
asked place.OneNode method.Delete id target = Some (remove id)
asked place.Drain method.Post id target = Some (drain id)
asked place.Beat method.Post id target = Some (beat id)
asked p m id target = None

-- the place of a path that is text, and its parts
unfoldable pub place_of : List ℕ → Option (Place × List (List ℕ))
place_of path = cond (is_utf8 path) (place_by paths path) None

-- the route of a place that was found, by the method
abbrev pub route_at : Option (Place × List (List ℕ)) → List ℕ → List ℕ → Result Route RouteFault
route_at None target method = Err fault.UnknownCommand
route_at (Some found) target method = ok_or (asked found.0 (method_named method) (id_of found.1) target) fault.UnknownMethod

-- the route of a request
unfoldable pub route_of : List ℕ → List ℕ → Result Route RouteFault
route_of method target = route_at (place_of (path_of (own_target target))) (own_target target) method
