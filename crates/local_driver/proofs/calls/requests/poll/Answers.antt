use Rattle.std.proofs.Common.{refl}
use Rattle.grid_types.specs.Calls.{Call}
use Rattle.conn_script.specs.declared.wants.HubAnswer.TheVariants as answers
use Rattle.local_driver.proofs.CallLemmas.{on_made}
use Rattle.local_driver.proofs.calls.requests.poll.Goals as goal

pub returns : goal.returns
returns g c = on_made g.H.OwnHub.own c.args.hub.now c.poll.new.self (Call.poll c.args.ticket) c.args.at.0 (answers.Poll c.in_ok-poll.field-0) refl c.in_ok-poll.ensures.back refl c.in_ok-poll.ensures.answers
