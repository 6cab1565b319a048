use Rattle.std.proofs.Common.{◌+◌, arith, refl, []}
use Rattle.hub_conn.specs.declared.talk.State.TheVariants as states
use Rattle.hub_conn.specs.Talk.{of_nothing}
use Rattle.hub_conn.proofs.WriteLemmas.{continues_on, continued_all}
use Rattle.hub_conn.proofs.StateLemmas.{settles_in}
use Rattle.hub_conn.proofs.WorkLemmas.{continues_less, continued_less}
use Rattle.hub_conn.proofs.talk.Talk.continued_by.Goals as goal

pub returns-then-sent-clause-goes : goal.returns-then-sent-clause-goes
returns-then-sent-clause-goes c = λ own w bytes steps written x.
    continues_on c.args.self.now _ c.args.sent c.args.count own w bytes steps written x refl (record { inbox = refl; read = refl; begins = refl; frames = refl }) refl
    (omega (arith, c.if-sent.true))

pub returns-then-sent-clause-settles : goal.returns-then-sent-clause-settles
returns-then-sent-clause-settles c = settles_in _ (states.Continuing (c.args.sent + c.args.count)) of_nothing [] refl refl refl refl refl

pub returns-else-sent-clause-goes : goal.returns-else-sent-clause-goes
returns-else-sent-clause-goes c = λ own w bytes steps written x.
    c.look.ensures.looks own bytes steps _
    (continued_all c.args.self.now _ c.args.sent c.args.count own w bytes steps written x (record { inbox = refl; read = refl; begins = refl; frames = refl }) refl refl
    (omega (arith, c.if-sent.false, c.requires.within)))

pub returns-then-sent-clause-less : goal.returns-then-sent-clause-less
returns-then-sent-clause-less c = continues_less c.args.self.now _ c.args.sent c.args.count refl refl (omega (arith, c.if-sent.true))

pub returns-else-sent-clause-less : goal.returns-else-sent-clause-less
returns-else-sent-clause-less c = continued_less c.args.self.now c.look.new.self c.args.sent c.args.count c.look.ensures.less
