use Rattle.std.proofs.Common.{refl}
use Rattle.conn_script.specs.declared.wants.HubAnswer.TheVariants as answers
use Rattle.conn_script.proofs.StartLemmas.{freed_answered, spent_answered}
use Rattle.conn_script.proofs.WorkLemmas.{freed_less, spent_less}
use Rattle.conn_script.proofs.creating.freed_or_spent.Goals as goal

pub returns-in-Freed-clause-turns : goal.returns-in-Freed-clause-turns
returns-in-Freed-clause-turns c = rw c.in-Freed.is (freed_answered c.args.ticket c.args.carry c.start_told.result c.start_told.ensures.turns)

pub returns-in-Spent-clause-turns : goal.returns-in-Spent-clause-turns
returns-in-Spent-clause-turns c =
    rw c.in-Spent.is (rw c.respond_last.ensures.turn
    (spent_answered c.args.ticket c.args.carry (answers.Spent c.in-Spent.field-0) c.short.result c.hub_spent.result (λ call at. refl) c.short.ensures c.hub_spent.ensures))

pub returns-in-Freed-clause-less : goal.returns-in-Freed-clause-less
returns-in-Freed-clause-less c = rw c.in-Freed.is (freed_less c.args.carry c.start_told.result c.start_told.ensures.less)

pub returns-in-Spent-clause-less : goal.returns-in-Spent-clause-less
returns-in-Spent-clause-less c = spent_less c.args.carry c.args.answer.now c.respond_last.result c.respond_last.ensures.over
