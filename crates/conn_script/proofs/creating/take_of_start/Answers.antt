use Rattle.conn_script.proofs.StartLemmas.{bind_taken, fail_taken}
use Rattle.conn_script.proofs.creating.take_of_start.Goals as goal

pub returns-in-Bind : goal.returns-in-Bind
returns-in-Bind c =
    let took = c.take_bind-reservation.result in
    bind_taken c.args.ticket c.args.carry c.take_bind-reservation.new.self took.0 took.1 took.2 c.take_bind-reservation.ensures.takes c.take_bind-reservation.ensures.call c.take_bind-reservation.ensures.tokens

pub returns-in-Fail : goal.returns-in-Fail
returns-in-Fail c =
    let took = c.take_fail-reservation.result in
    fail_taken c.args.ticket c.args.carry c.take_fail-reservation.new.self took.0 took.1 c.take_fail-reservation.ensures.takes c.take_fail-reservation.ensures.call c.take_fail-reservation.ensures.tokens
