use Rattle.hub_conn.proofs.InboxLemmas.{is_of}
use Rattle.hub_conn.proofs.inbox.Inbox.whole.Goals as goal

pub returns : goal.returns
returns c = λ bytes f holds.
    is_of c.args.self.now c.in-Whole.frame c.only_part.result bytes f (λ limits b fs gs d e x y. c.one_reading.ensures.connection limits b fs gs d e x y)
    holds c.in-Whole.ensures.told (λ part has. c.only_part.ensures part has)
