use Rattle.hub_conn.proofs.InboxLemmas.{waits_so}
use Rattle.hub_conn.proofs.inbox.Inbox.waits.Goals as goal

pub returns : goal.returns
returns c = λ filled bytes holds. waits_so c.args.self.now c.expects.result bytes holds filled c.expects.ensures
