use Rattle.std.proofs.Common.{inl}
use Rattle.conn_script.specs.Script.{before_all}
use Rattle.hub_conn.proofs.talk.Talk.first.Goals as goal

pub returns-in-Some-clause-turns : goal.returns-in-Some-clause-turns
returns-in-Some-clause-turns c = λ rest f x. c.first_turn.ensures.turns f (c.whole.ensures rest f x)

pub returns-in-None-clause-turns : goal.returns-in-None-clause-turns
returns-in-None-clause-turns c = λ rest f x. inl before_all
