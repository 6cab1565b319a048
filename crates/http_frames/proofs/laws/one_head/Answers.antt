use Rattle.http_frames.specs.Frames.{open_head}
use Rattle.http_frames.proofs.FeedLemmas.{open_head_nil}
use Rattle.http_frames.proofs.WaitLemmas.{accepted_more, one_accepted, none_accepted, none_refused}
use Rattle.http_frames.proofs.laws.one_head.Goals as goal

pub returns : goal.returns
returns c = record {
  stays = λ limits buf more h x. accepted_more limits buf more h x;
  one = λ limits buf h k x y. one_accepted limits buf h k x y;
  none = λ limits h x. none_accepted limits h x;
  nothing = λ limits some. open_head open_head_nil some;
  fault = λ limits buf why some x e. none_refused limits buf why some x e;
}
