use Rattle.request_laws.proofs.NewestLemmas.{deadlines, others, queued}
use Rattle.request_laws.proofs.starts.calls_keep_the_newest_request.Goals as goal

pub returns : goal.returns
returns c = record { others = others; queued = queued; deadlines = deadlines }
