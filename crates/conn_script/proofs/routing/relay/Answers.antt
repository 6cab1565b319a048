use Rattle.std.proofs.Common.{inl}
use Rattle.conn_script.specs.Routing.{none}
use Rattle.conn_script.proofs.RouteLemmas.{relay_asked, relay_unnamed, not_there}
use Rattle.conn_script.proofs.routing.relay.Goals as goal

pub returns-in_default-clause-turns : goal.returns-in_default-clause-turns
returns-in_default-clause-turns c =
    rw c.respond.ensures.turn (relay_unnamed c.from_bytes.result c.args.id.now c.args.target.now c.args.close c.no_such_session.result
    (not_there c.from_bytes.result c.in_default.not-Some) c.from_bytes.ensures.variant c.no_such_session.ensures)

pub returns-in-Ok-clause-turns : goal.returns-in-Ok-clause-turns
returns-in-Ok-clause-turns c =
    relay_asked c.from_bytes.result c.args.id.now c.in-Some.session c.args.target.now c.in-Ok.target c.args.close c.in-Some.is c.from_bytes.ensures.variant c.from_bytes.ensures.value c.in-Ok.ensures

pub returns-in-Err-clause-turns : goal.returns-in-Err-clause-turns
returns-in-Err-clause-turns c = λ f. inl none
