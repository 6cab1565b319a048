use Rattle.std.proofs.Common.{refl}
use Rattle.grid_types.specs.Calls.{Call}
use Rattle.conn_script.specs.declared.wants.HubAnswer.TheVariants as answers
use Rattle.local_driver.proofs.CallLemmas.{on_made}
use Rattle.std.proofs.lemmas.Result.{err_from_is_err_and}
use Rattle.local_driver.proofs.calls.sessions.freed.Goals as goal

pub returns : goal.returns
returns g c = λ at. on_made g.H.OwnHub.own c.args.hub.now c.freed.new.self (Call.freed c.args.closing) at answers.Freed refl tt refl (c.in_ok-freed.ensures at)

pub returns-in_err-freed : goal.returns-in_err-freed
returns-in_err-freed g c = λ at.
    let p = err_from_is_err_and c.from_residual.result c.from_residual.ensures.1 in
    rw (p.1, p.2) (c.in_err-freed.ensures at)
