use Rattle.request_laws.proofs.PollLemmas.{deadlines, not_yet, yours_early}
use Rattle.request_laws.proofs.starts.polls_are_early.Goals as goal

pub returns-clause-early : goal.returns-clause-early
returns-clause-early c =
    let proved = c.history_laws.ensures in
    record { not_yet = not_yet proved; yours = yours_early }

pub returns-clause-moments : goal.returns-clause-moments
returns-clause-moments c =
    let proved = c.history_laws.ensures in
    deadlines proved
