-- The request under way.
use Rattle.std.specs.Prelude.{◌≡◌, []}
use Rattle.std.specs.List.{concat}
use Rattle.http_frames.specs.Heads.{ReadsHead}
use Rattle.http_frames.specs.Frames.{Request}
use Rattle.conn_script.specs.declared.request.Whole.{Whole}

-- the parts of that request
pub record IsOf (whole : Whole) (f : Request) : Type 0 where
  pub method : whole.method.now ≡ f.0.method
  pub target : whole.target.now ≡ f.0.target
  pub head : ReadsHead whole.head.bytes.now f.0 []
  pub body_is : whole.body.now ≡ concat f.1
