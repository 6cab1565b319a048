use Rattle.conn_script.proofs.RelayLemmas.{exchange_http, exchange_not_http}
use Rattle.conn_script.proofs.relaying.exchanged.Goals as goal

pub returns-in-Ok-Http-clause-turns : goal.returns-in-Ok-Http-clause-turns
returns-in-Ok-Http-clause-turns c = rw c.in-Ok-Http.is (rw c.in-Ok-Http.field-0-is (rw c.respond.ensures.turn (exchange_http c.in-Ok-Http.reply c.args.close c.passed_on.result c.passed_on.ensures)))

pub returns-in-Ok-NotHttp-clause-turns : goal.returns-in-Ok-NotHttp-clause-turns
returns-in-Ok-NotHttp-clause-turns c = rw c.in-Ok-NotHttp.is (rw c.in-Ok-NotHttp.field-0-is (rw c.respond-in-Ok-NotHttp.ensures.turn (exchange_not_http c.in-Ok-NotHttp.field-0-0 c.args.close c.node_not_http.result c.node_not_http.ensures)))

pub returns-clause-turns : goal.returns-clause-turns
returns-clause-turns c = rw c.in-Err.is c.not_exchanged.ensures.turns
