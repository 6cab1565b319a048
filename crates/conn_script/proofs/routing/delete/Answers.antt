use Rattle.conn_script.proofs.RouteLemmas.{delete_asked, delete_unnamed}
use Rattle.conn_script.proofs.routing.delete.Goals as goal

pub returns-in-Some-clause-turns : goal.returns-in-Some-clause-turns
returns-in-Some-clause-turns c = delete_asked c.from_bytes.result c.args.id.now c.in-Some.session c.args.close c.in-Some.is c.from_bytes.ensures.variant c.from_bytes.ensures.value

pub returns-in-None-clause-turns : goal.returns-in-None-clause-turns
returns-in-None-clause-turns c =
    rw c.respond.ensures.turn (delete_unnamed c.from_bytes.result c.args.id.now c.args.close c.no_such_session.result c.in-None.is c.from_bytes.ensures.variant c.no_such_session.ensures)
