use Rattle.hub_tellers.proofs.RequestLemmas.{poll_reserved, poll_settled, poll_quiet}
use Rattle.hub_tellers.proofs.requests.told_poll.Goals as goal

pub returns-in-Yours : goal.returns-in-Yours
returns-in-Yours c = λ ticket same. poll_reserved c.calls_make.ensures _ _ ticket _ same _ _ _ _ _ _ _ c.in-Yours.is c.told_reserved.ensures

pub returns-in-Settled : goal.returns-in-Settled
returns-in-Settled c = λ ticket same. poll_settled c.calls_make.ensures _ _ ticket _ same _ _ _ _ _ _ c.in-Settled.is c.told_settled.ensures

pub returns-in_default : goal.returns-in_default
returns-in_default c = λ ticket same. poll_quiet c.calls_make.ensures _ _ ticket _ same _ _ _ _ c.in_default.not-Yours c.in_default.not-Settled
