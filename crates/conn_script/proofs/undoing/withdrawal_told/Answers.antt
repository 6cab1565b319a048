use Rattle.conn_script.specs.declared.wants.HubAnswer.TheVariants as answers
use Rattle.conn_script.proofs.UndoLemmas.{withdrawn_leads, held_leads, held_waits, held_less, never_waits, below_withdrawal}
use Rattle.conn_script.proofs.undoing.withdrawal_told.Goals as goal

pub returns-in-Withdrawn-clause-leads : goal.returns-in-Withdrawn-clause-leads
returns-in-Withdrawn-clause-leads c = rw c.in-Withdrawn.is withdrawn_leads

pub returns-in-Settled-clause-leads : goal.returns-in-Settled-clause-leads
returns-in-Settled-clause-leads c = rw c.in-Settled.is c.outcome_untold.ensures.leads

pub returns-in-Settled-clause-waits : goal.returns-in-Settled-clause-waits
returns-in-Settled-clause-waits c = never_waits (answers.Withdraw c.args.withdrawing) c.outcome_untold.result c.outcome_untold.ensures.stays

pub returns-in-Settled-clause-less : goal.returns-in-Settled-clause-less
returns-in-Settled-clause-less c = below_withdrawal (answers.Withdraw c.args.withdrawing) c.outcome_untold.result c.outcome_untold.ensures.less

pub returns-in-NotYet-clause-leads : goal.returns-in-NotYet-clause-leads
returns-in-NotYet-clause-leads c = rw c.in-NotYet.is (held_leads c.in-NotYet.ticket)

pub returns-in-NotYet-clause-waits : goal.returns-in-NotYet-clause-waits
returns-in-NotYet-clause-waits c = rw c.in-NotYet.is (held_waits c.in-NotYet.ticket)

pub returns-in-NotYet-clause-less : goal.returns-in-NotYet-clause-less
returns-in-NotYet-clause-less c = rw c.in-NotYet.is (held_less c.in-NotYet.ticket)
