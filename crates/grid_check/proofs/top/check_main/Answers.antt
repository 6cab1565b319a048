use Rattle.std.proofs.Common.{ℕ, inl, inr, subst, refl, arith}
use Rattle.grid_check.specs.Making.{MakeEnds}
use Rattle.grid_check.proofs.EndLemmas.{check_not_eight, check_five, check_six, make_not_eight, make_not_five, make_six, not_both, one_number, neither}
use Rattle.grid_check.proofs.top.check_main.Goals as goal

pub returns-then-is_check-clause-words : goal.returns-then-is_check-clause-words
returns-then-is_check-clause-words g c = (
  λ e. absurd (check_not_eight _ _ _ _ c.run_check.result c.run_check.ensures e),
  λ none. absurd (none (inl (c.is_check.ensures.some c.if-is_check.true))),
)

pub returns-then-is_check-clause-untouched : goal.returns-then-is_check-clause-untouched
returns-then-is_check-clause-untouched g c = λ e. absurd (check_not_eight _ _ _ _ c.run_check.result c.run_check.ensures e)

pub returns-then-is_check-clause-made : goal.returns-then-is_check-clause-made
returns-then-is_check-clause-made g c = λ n small p. absurd (not_both c.args.words.now n (c.is_check.ensures.some c.if-is_check.true) p)

pub returns-then-is_check-clause-unread : goal.returns-then-is_check-clause-unread
returns-then-is_check-clause-unread g c = λ n small p. absurd (not_both c.args.words.now n (c.is_check.ensures.some c.if-is_check.true) p)

pub returns-then-is_check-clause-read : goal.returns-then-is_check-clause-read
returns-then-is_check-clause-read g c = check_five _ _ _ _ c.run_check.result c.run_check.ensures

pub returns-then-is_check-clause-write : goal.returns-then-is_check-clause-write
returns-then-is_check-clause-write g c = check_six _ _ _ _ c.run_check.result c.run_check.ensures

pub returns-in-Some-clause-words : goal.returns-in-Some-clause-words
returns-in-Some-clause-words g c = (
  λ e. absurd (make_not_eight c.in-Some.number _ _ c.make_journal.result c.make_journal.ensures e),
  λ none. absurd (none (inr (c.in-Some.number, omega arith, c.in-Some.ensures.some))),
)

pub returns-in-Some-clause-untouched : goal.returns-in-Some-clause-untouched
returns-in-Some-clause-untouched g c = λ e. absurd (make_not_eight c.in-Some.number _ _ c.make_journal.result c.make_journal.ensures e)

pub returns-in-Some-clause-checked : goal.returns-in-Some-clause-checked
returns-in-Some-clause-checked g c = λ p. absurd (not_both c.args.words.now c.in-Some.number p c.in-Some.ensures.some)

pub returns-in-Some-clause-made : goal.returns-in-Some-clause-made
returns-in-Some-clause-made g c = λ n small p.
    let old = g.K.Sink.view c.args.output.now in
    let new = g.K.Sink.view c.make_journal.new.output in
    subst (λ (m : ℕ). MakeEnds m old new c.make_journal.result) (one_number c.args.words.now c.in-Some.number n (omega arith) small c.in-Some.ensures.some p) c.make_journal.ensures

pub returns-in-Some-clause-read : goal.returns-in-Some-clause-read
returns-in-Some-clause-read g c = λ e. absurd (make_not_five c.in-Some.number _ _ c.make_journal.result c.make_journal.ensures e)

pub returns-in-Some-clause-write : goal.returns-in-Some-clause-write
returns-in-Some-clause-write g c = make_six c.in-Some.number _ _ c.make_journal.result c.make_journal.ensures

pub returns-in-None-clause-words : goal.returns-in-None-clause-words
returns-in-None-clause-words g c = (
  λ e. neither c.args.words.now (c.is_check.ensures.none c.if-is_check.false) c.in-None.ensures.none,
  λ none. refl,
)
