use Rattle.std.proofs.Common.{refl}
use Rattle.grid_types.specs.Calls.{Call}
use Rattle.conn_script.specs.declared.wants.HubAnswer.TheVariants as answers
use Rattle.local_driver.proofs.CallLemmas.{on_made}
use Rattle.local_driver.proofs.calls.requests.bind.Goals as goal

pub returns : goal.returns
returns g c =
    on_made g.H.OwnHub.own c.args.hub.now c.bind.new.self (Call.bind c.args.reservation c.args.session c.args.caps) c.args.at.0 (answers.Bind c.in_ok-bind.field-0) refl c.in_ok-bind.ensures.back refl
    c.in_ok-bind.ensures.answers
