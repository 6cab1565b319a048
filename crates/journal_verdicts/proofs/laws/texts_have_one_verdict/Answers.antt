use Rattle.journal_verdicts.proofs.VerdictLemmas.{one_verdict}
use Rattle.journal_verdicts.proofs.laws.texts_have_one_verdict.Goals as goal

pub returns : goal.returns
returns c = one_verdict c.one_spelling.ensures.entries c.one_spelling.ensures.heads
