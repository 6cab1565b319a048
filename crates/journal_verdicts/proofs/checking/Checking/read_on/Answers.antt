use Rattle.std.proofs.Common.{refl}
use Rattle.journal_verdicts.proofs.CheckLemmas.{goes_by_bytes}
use Rattle.journal_verdicts.proofs.checking.Checking.read_on.Goals as goal

pub returns-clause-goes : goal.returns-clause-goes
returns-clause-goes g c = λ start r.
    goes_by_bytes g.L.Listener.heard start _ _ c.args.self.now _ r refl refl refl refl c.in_ok-refill.ensures.reads c.in_ok-refill.ensures.end c.in_ok-refill.ensures.ends

pub returns-then-has_ended-clause-goes : goal.returns-then-has_ended-clause-goes
returns-then-has_ended-clause-goes g c = λ start r. c.end.ensures start _ r
