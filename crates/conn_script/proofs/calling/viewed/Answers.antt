use Rattle.std.proofs.Common.{ap}
use Rattle.grid_types.specs.Calls.{Reply}
use Rattle.hub_core.specs.Replies.{viewed_reply}
use Rattle.hub_status.specs.Status.{status_bytes}
use Rattle.hub_status.specs.Queue.{queue_bytes}
use Rattle.conn_script.specs.Responses.{own}
use Rattle.conn_script.specs.Calling.{respond_of}
use Rattle.conn_script.specs.declared.calling.Asked.{Asked}
use Rattle.conn_script.proofs.TurnLemmas.{responds}
use Rattle.conn_script.proofs.CallLemmas.{asked_queue}
use Rattle.conn_script.proofs.calling.viewed.Goals as goal

pub returns-in-Status : goal.returns-in-Status
returns-in-Status c =
    responds (viewed_reply c.args.view.now) (respond_of c.args.asked) (Reply.viewed c.in-Ok.view) (own 200 (status_bytes c.in-Ok.view)) c.args.close c.status.result
    (ap viewed_reply c.in-Ok.is) (ap (λ (a : Asked). respond_of a (Reply.viewed c.in-Ok.view)) c.in-Status.is) c.status.ensures

pub returns-in_default-asked : goal.returns-in_default-asked
returns-in_default-asked c =
    responds (viewed_reply c.args.view.now) (respond_of c.args.asked) (Reply.viewed c.in-Ok.view) (own 200 (queue_bytes c.in-Ok.view)) c.args.close c.queue.result
    (ap viewed_reply c.in-Ok.is) (ap (λ (a : Asked). respond_of a (Reply.viewed c.in-Ok.view)) (asked_queue c.args.asked c.requires c.in_default-asked.not-Status)) c.queue.ensures
