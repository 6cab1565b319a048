use Rattle.std.proofs.Common.{refl}
use Rattle.conn_script.proofs.UndoLemmas.{withdraw_else, never_waits, over_withdrawal}
use Rattle.conn_script.proofs.undoing.withdrawn.Goals as goal

pub returns-in-Withdraw-clause-leads : goal.returns-in-Withdraw-clause-leads
returns-in-Withdraw-clause-leads c = rw c.in-Withdraw.is c.withdrawal_told.ensures.leads

pub returns-in-Withdraw-clause-waits : goal.returns-in-Withdraw-clause-waits
returns-in-Withdraw-clause-waits c = rw c.in-Withdraw.is c.withdrawal_told.ensures.waits

pub returns-in-Withdraw-clause-less : goal.returns-in-Withdraw-clause-less
returns-in-Withdraw-clause-less c = rw c.in-Withdraw.is c.withdrawal_told.ensures.less

pub returns-in_default-clause-leads : goal.returns-in_default-clause-leads
returns-in_default-clause-leads c = withdraw_else c.args.answer c.let_go.result c.requires c.in_default.not-Withdraw c.let_go.ensures

pub returns-in_default-clause-waits : goal.returns-in_default-clause-waits
returns-in_default-clause-waits c = never_waits c.args.answer c.let_go.result (rw c.let_go.ensures refl)

pub returns-in_default-clause-less : goal.returns-in_default-clause-less
returns-in_default-clause-less c = over_withdrawal c.args.answer c.let_go.result c.let_go.ensures
