use Rattle.std.proofs.Common.{inl}
use Rattle.conn_script.specs.Routing.{none}
use Rattle.conn_script.proofs.RouteLemmas.{register_refused}
use Rattle.conn_script.proofs.routing.registration_refused.Goals as goal

pub returns-in-Memory-clause-turns : goal.returns-in-Memory-clause-turns
returns-in-Memory-clause-turns c = λ body gives f. inl none

pub returns-in_default-clause-turns : goal.returns-in_default-clause-turns
returns-in_default-clause-turns c = λ body gives.
    rw c.respond.ensures.turn (register_refused body c.args.fault.now c.args.close c.reg_refusal.result (gives c.in_default.not-Memory) c.reg_refusal.ensures)
