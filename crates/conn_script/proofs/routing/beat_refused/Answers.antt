use Rattle.std.proofs.Common.{inl}
use Rattle.conn_script.specs.Routing.{none}
use Rattle.conn_script.proofs.RouteLemmas.{beat_wrong}
use Rattle.conn_script.proofs.routing.beat_refused.Goals as goal

pub returns-in-Memory-clause-turns : goal.returns-in-Memory-clause-turns
returns-in-Memory-clause-turns c = λ id body node names gives f. inl none

pub returns-in_default-clause-turns : goal.returns-in_default-clause-turns
returns-in_default-clause-turns c = λ id body node names gives.
    rw c.respond.ensures.turn
    (beat_wrong id body node c.args.fault.now c.args.close c.beat_refusal.result names (gives c.in_default.not-Memory) c.beat_refusal.ensures)
