use Rattle.std.proofs.Common.{refl, []}
use Rattle.hub_conn.specs.declared.talk.State.TheVariants as states
use Rattle.hub_conn.specs.Talk.{of_nothing}
use Rattle.hub_conn.proofs.LookLemmas.{whole_begins}
use Rattle.hub_conn.proofs.StateLemmas.{settles_in}
use Rattle.std.proofs.Common.{arith}
use Rattle.hub_conn.specs.Work.{bytes_left, begin_work}
use Rattle.hub_conn.proofs.WorkLemmas.{reads_leave, leaves_in}
use Rattle.hub_conn.proofs.talk.Talk.look_on.Goals as goal

pub returns-in-More-clause-looks : goal.returns-in-More-clause-looks
returns-in-More-clause-looks c = λ own bytes rest steps written x.
    let more = c.in-More.ensures c.requires.filled rest x.holds in
    c.read_on.ensures.reads own bytes rest steps written x (more.0, more.1) more.2

pub returns-in-Refused-clause-looks : goal.returns-in-Refused-clause-looks
returns-in-Refused-clause-looks c = λ own bytes rest steps written x. c.refuse.ensures.refuses own bytes rest steps written x (c.in-Refused.ensures c.requires.filled rest x.holds)

pub returns-in-Whole-clause-looks : goal.returns-in-Whole-clause-looks
returns-in-Whole-clause-looks c = λ own bytes rest steps written x.
    whole_begins (λ limits buf more h parts behind y. c.stays.ensures.whole limits buf more h parts behind y) c.args.self.now _ own bytes rest steps written c.in-Whole.closes x
    (c.in-Whole.ensures c.requires.filled rest x.holds) refl (record { inbox = refl; read = refl; begins = refl; frames = refl }) refl refl refl

pub returns-in-Whole-clause-settles : goal.returns-in-Whole-clause-settles
returns-in-Whole-clause-settles c = settles_in _ states.Beginning of_nothing [] refl refl refl refl refl

pub returns-in-More-clause-less : goal.returns-in-More-clause-less
returns-in-More-clause-less c = reads_leave (bytes_left c.args.self.now) c.read_on.new.self c.read_on.ensures.less

pub returns-in-Refused-clause-less : goal.returns-in-Refused-clause-less
returns-in-Refused-clause-less c = reads_leave (bytes_left c.args.self.now) c.refuse.new.self c.refuse.ensures.less

pub returns-in-Whole-clause-less : goal.returns-in-Whole-clause-less
returns-in-Whole-clause-less c = leaves_in (begin_work (bytes_left c.args.self.now)) _ states.Beginning refl (λ o. omega arith)
