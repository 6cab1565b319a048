use Rattle.hub_tellers.proofs.RequestLemmas.{withdraw_cleared, withdraw_settled, withdraw_quiet}
use Rattle.hub_tellers.proofs.requests.told_withdraw.Goals as goal

pub returns-in-Withdrawn : goal.returns-in-Withdrawn
returns-in-Withdrawn c = λ ticket same. withdraw_cleared c.calls_make.ensures _ _ ticket _ same _ _ _ _ c.in-Withdrawn.is c.told_given_up.ensures

pub returns-in-Settled : goal.returns-in-Settled
returns-in-Settled c = λ ticket same. withdraw_settled c.calls_make.ensures _ _ ticket _ same _ _ _ _ _ c.in-Settled.is c.taken.ensures

pub returns-in-NotYet : goal.returns-in-NotYet
returns-in-NotYet c = λ ticket same. withdraw_quiet c.calls_make.ensures _ _ ticket _ same _ _ _ _ c.in-NotYet.is
