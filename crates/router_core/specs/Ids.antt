-- The id in a path, by the length of the text before it.
use Rattle.std.specs.Prelude.{ℕ, List, [], drop, length}
use Rattle.wd_bodies.specs.declared.paths.TheConstants.{BEFORE_NODE, BEFORE_SESSION}
use Rattle.router_core.specs.Patterns.{first_part}
use Rattle.router_core.specs.declared.place.Place.{Place}
use Rattle.router_core.specs.declared.place.Place.TheVariants as place

-- the id at a place of the table
abbrev pub id_at : Place → List ℕ → List ℕ
id_at place.Session path = []
id_at place.OneSession path = first_part (drop (length BEFORE_SESSION.now) path)
id_at place.Commands path = first_part (drop (length BEFORE_SESSION.now) path)
id_at place.Status path = []
id_at place.Queue path = []
id_at place.Nodes path = []
id_at place.OneNode path = first_part (drop (length BEFORE_NODE.now) path)
id_at place.Drain path = first_part (drop (length BEFORE_NODE.now) path)
id_at place.Beat path = first_part (drop (length BEFORE_NODE.now) path)
