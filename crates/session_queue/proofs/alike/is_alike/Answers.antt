use Rattle.std.proofs.Common.{◌∙◌}
use Rattle.session_queue.proofs.AlikeLemmas.{like-rows}
use Rattle.session_queue.proofs.alike.is_alike.Goals as goal

pub returns : goal.returns
returns c =
    let proved = c.queue_laws.ensures in
    λ H q r s t w v. c.is_like.ensures ∙ like-rows proved c.args.a.now c.args.b.now H q r s t w v
