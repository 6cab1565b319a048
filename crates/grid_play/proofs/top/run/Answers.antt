use Rattle.std.proofs.Common.{inl, inr, arith}
use Rattle.grid_play.specs.Ran.{Fit, FitPlay}
use Rattle.grid_play.proofs.RunLemmas.{not_both, one_number, sum_any_status, sum_not, summed_of}
use Rattle.grid_play.proofs.top.run.Goals as goal

pub returns-in-Some-clause-words : goal.returns-in-Some-clause-words
returns-in-Some-clause-words g c = (
  λ e. absurd (sum_not c.write_simulation.result 2 c.write_simulation.ensures.statuses (omega arith) (omega arith) e),
  λ none. absurd (none (inr (c.in-Some.number, omega arith, c.in-Some.ensures.some))),
)

pub returns-in-Some-clause-untouched : goal.returns-in-Some-clause-untouched
returns-in-Some-clause-untouched g c = λ e. absurd (sum_not c.write_simulation.result 2 c.write_simulation.ensures.statuses (omega arith) (omega arith) e)

pub returns-in-Some-clause-ran : goal.returns-in-Some-clause-ran
returns-in-Some-clause-ran g c = λ d nodes p. absurd (not_both c.args.words.now d nodes c.in-Some.number p c.in-Some.ensures.some)

pub returns-in-Some-clause-summed : goal.returns-in-Some-clause-summed
returns-in-Some-clause-summed g c = λ n small p.
    let w = c.write_simulation.ensures in
    summed_of c.in-Some.number n c.write_simulation.result (g.K.Sink.view c.args.output.now) (g.K.Sink.view c.write_simulation.new.output) (one_number c.args.words.now c.in-Some.number n (omega arith) small c.in-Some.ensures.some p)
    w.statuses w.whole w.broken w.cause w.nothing

pub returns-in-Some-clause-read : goal.returns-in-Some-clause-read
returns-in-Some-clause-read g c = λ e. absurd (sum_not c.write_simulation.result 3 c.write_simulation.ensures.statuses (omega arith) (omega arith) e)

pub returns-in-Some-clause-statuses : goal.returns-in-Some-clause-statuses
returns-in-Some-clause-statuses g c = sum_any_status c.write_simulation.result c.write_simulation.ensures.statuses

pub returns-in-None-clause-words : goal.returns-in-None-clause-words
returns-in-None-clause-words g c = (
  λ e fit. neither (c.run_play.ensures.words.0 e) fit,
  λ none. c.run_play.ensures.words.1 (λ p. none (inl p)),
)
  where
    neither : (FitPlay c.args.words.now → ⊥) → Fit c.args.words.now → ⊥
    neither never (inl p) = never p
    neither never (inr s) = c.in-None.ensures.none s.0 s.1 s.2

pub returns-in-None-clause-summed : goal.returns-in-None-clause-summed
returns-in-None-clause-summed g c = λ n small p. absurd (c.in-None.ensures.none n small p)

pub returns-in-None-clause-unread : goal.returns-in-None-clause-unread
returns-in-None-clause-unread g c = λ n small p. absurd (c.in-None.ensures.none n small p)
