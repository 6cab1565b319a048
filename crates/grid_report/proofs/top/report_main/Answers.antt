use Rattle.grid_report.proofs.StatusLemmas.{read_rose, report_as, words_fit, write_rose}
use Rattle.grid_report.proofs.top.report_main.Goals as goal

pub returns-in-Some-clause-words : goal.returns-in-Some-clause-words
returns-in-Some-clause-words g c =
    (λ h. absurd (words_fit c.in-Some.asked _ _ _ _ c.report.result c.report.ensures h), λ p. absurd (cc))

pub returns-in-Some-clause-untouched : goal.returns-in-Some-clause-untouched
returns-in-Some-clause-untouched g c = λ h. absurd (words_fit c.in-Some.asked _ _ _ _ c.report.result c.report.ensures h)

pub returns-in-Some-clause-reported : goal.returns-in-Some-clause-reported
returns-in-Some-clause-reported g c = λ report is. report_as c.in-Some.asked report _ _ _ _ c.report.result c.report.ensures (cc)

pub returns-in-Some-clause-read : goal.returns-in-Some-clause-read
returns-in-Some-clause-read g c = λ h. read_rose c.in-Some.asked _ _ _ _ c.report.result c.report.ensures h

pub returns-in-Some-clause-write : goal.returns-in-Some-clause-write
returns-in-Some-clause-write g c = λ h. write_rose c.in-Some.asked _ _ _ _ c.report.result c.report.ensures h

pub returns-in-None-clause-logged : goal.returns-in-None-clause-logged
returns-in-None-clause-logged g c = λ asked none is. c.log_main.ensures.logged asked is

pub returns-in-None-clause-waits : goal.returns-in-None-clause-waits
returns-in-None-clause-waits g c = λ asked none is. c.log_main.ensures.waits asked is
