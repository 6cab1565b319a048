use Rattle.journal_verdicts.proofs.CheckLemmas.{ends_of_goes}
use Rattle.journal_verdicts.proofs.checking.Checking.run.Goals as goal

pub returns-in-Some-clause-goes : goal.returns-in-Some-clause-goes
returns-in-Some-clause-goes g c = λ start r.
    ends_of_goes g.L.Listener.heard _ _ start _ _ c.in_ok-verdict.field-0 c.in-Some.verdict c.in_ok-verdict.ensures.goes c.in-Some.is (c.entries.invariant.goes start r)
