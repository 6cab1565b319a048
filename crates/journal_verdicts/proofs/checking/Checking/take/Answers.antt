use Rattle.std.proofs.Common.{sym, ◌∙◌, arith}
use Rattle.journal_verdicts.proofs.CheckLemmas.{goes_by_entry, ok_of}
use Rattle.journal_verdicts.proofs.checking.Checking.take.Goals as goal

pub returns-clause-goes : goal.returns-clause-goes
returns-clause-goes g c = λ now start r.
    goes_by_entry g.L.Listener.heard start now c.args.self.now _ c.args.entry c.args.len c.permits.result r c.requires c.permits.ensures.exact c.if-not-permits.false
    (ok_of c.note.result (sym c.is_err-2.ensures.value ∙ c.if-is_err-2.false) c.note.ensures)
    (ok_of c.hear.result (sym c.is_err.ensures.value ∙ c.if-is_err.false) c.hear.ensures) c.max-self.ensures
    c.take_off.ensures.waiting c.take_off.ensures.taken c.take_off.ensures.ended c.saturating_add-self.ensures (omega (arith, c.args.self.now.feed.most))
