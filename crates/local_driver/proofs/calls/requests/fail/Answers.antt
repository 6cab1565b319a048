use Rattle.std.proofs.Common.{refl}
use Rattle.grid_types.specs.Calls.{Call}
use Rattle.conn_script.specs.declared.wants.HubAnswer.TheVariants as answers
use Rattle.local_driver.proofs.CallLemmas.{on_made}
use Rattle.local_driver.proofs.calls.requests.fail.Goals as goal

pub returns : goal.returns
returns g c = on_made g.H.OwnHub.own c.args.hub.now c.fail.new.self (Call.fail c.args.reservation c.args.why) c.args.at.0 (answers.Fail c.in_ok-fail.field-0) refl tt refl c.in_ok-fail.ensures
