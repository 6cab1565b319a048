use Rattle.http_frames.proofs.FaultyLemmas.{accepted_before}
use Rattle.http_frames.proofs.faulty.refused_heads_stay.Goals as goal

pub returns : goal.returns
returns c = λ limits buf more why h x y. accepted_before limits buf more why h x y
