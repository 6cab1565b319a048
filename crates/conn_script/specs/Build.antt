-- Which response a built message is.
use Rattle.std.specs.Prelude.{◌≡◌, ℕ, Bool, List, Option, Some}
use Rattle.grid_types.specs.Calls.{Reply}
use Rattle.conn_script.specs.Responses.{Response, bytes_of}

-- the bytes are those of the response that the reply calls for
pub record Responds (reply : Option Reply) (respond : Reply → Option Response) (bytes : List ℕ) (close : Bool) : Type 0 where
  pub said : Reply
  pub response : Response
  pub reply_is : reply ≡ Some said
  pub response_is : respond said ≡ Some response
  pub bytes_are : bytes ≡ bytes_of response close
