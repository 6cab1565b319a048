-- The waiting requests as JSON.
use Rattle.std.specs.Prelude.{ℕ, List, ◌++◌, map, codes, decimal}
use Rattle.std.specs.List.{join_with_byte}
use Rattle.grid_types.specs.declared.view.WaitView.{WaitView}
use Rattle.grid_types.specs.declared.view.View.{View}
use Rattle.wd_bodies.specs.Bodies.{value_bytes}

-- a request
unfoldable pub written_wait : WaitView → List ℕ
written_wait w =
    codes "{\"request\":" ++ decimal w.request ++ codes ",\"deadline\":" ++ decimal w.deadline.0
    ++ codes ",\"choices\":" ++ decimal w.choices ++ codes ",\"bytes\":" ++ decimal w.bytes ++ codes "}"

-- the body of the queue
unfoldable pub queue_bytes : View → List ℕ
queue_bytes view = value_bytes (codes "[" ++ join_with_byte 44 (map written_wait view.waiting) ++ codes "]")
