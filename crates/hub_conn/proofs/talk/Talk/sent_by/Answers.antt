use Rattle.std.proofs.Common.{◌+◌, ap, length, arith, refl, []}
use Rattle.hub_conn.specs.declared.talk.State.TheVariants as states
use Rattle.hub_conn.specs.Talk.{of_nothing}
use Rattle.hub_conn.proofs.PassLemmas.{writes_in}
use Rattle.hub_conn.proofs.WriteLemmas.{sends_on, sends_all}
use Rattle.hub_conn.proofs.StateLemmas.{settles_in}
use Rattle.hub_conn.proofs.WorkLemmas.{sends_less, sends_all_less}
use Rattle.hub_conn.proofs.talk.Talk.sent_by.Goals as goal

pub returns-then-sent-as_bytes-clause-goes : goal.returns-then-sent-as_bytes-clause-goes
returns-then-sent-as_bytes-clause-goes c =
    sends_on c.args.self.now _ c.args.out c.args.count refl (record { inbox = refl; read = refl; begins = refl; frames = refl }) refl refl (omega (arith, c.if-sent-as_bytes.true, ap length c.as_bytes.ensures))

pub returns-then-sent-as_bytes-clause-settles : goal.returns-then-sent-as_bytes-clause-settles
returns-then-sent-as_bytes-clause-settles c =
    settles_in _ (states.Writing (record { bytes = c.args.out.bytes; sent = c.args.out.sent + c.args.count; then = c.args.out.then; kept = c.args.out.kept })) of_nothing [] refl refl refl refl refl

pub returns-else-sent-as_bytes-clause-goes : goal.returns-else-sent-as_bytes-clause-goes
returns-else-sent-as_bytes-clause-goes c =
    sends_all c.args.self.now c.sent_all.new.self c.args.out c.args.count (omega (arith, c.if-sent-as_bytes.false, ap length c.as_bytes.ensures, c.requires.within)) c.sent_all.ensures.all

pub returns-then-sent-as_bytes-clause-less : goal.returns-then-sent-as_bytes-clause-less
returns-then-sent-as_bytes-clause-less c = sends_less c.args.self.now _ c.args.out c.args.count refl refl (omega (arith, c.if-sent-as_bytes.true, ap length c.as_bytes.ensures))

pub returns-else-sent-as_bytes-clause-less : goal.returns-else-sent-as_bytes-clause-less
returns-else-sent-as_bytes-clause-less c = sends_all_less c.args.self.now c.sent_all.new.self c.args.out c.args.count c.sent_all.ensures.less

pub returns-then-sent-as_bytes-clause-stays : goal.returns-then-sent-as_bytes-clause-stays
returns-then-sent-as_bytes-clause-stays c more =
    writes_in _ (states.Writing (record { bytes = c.args.out.bytes; sent = c.args.out.sent + c.args.count; then = c.args.out.then; kept = c.args.out.kept })) refl

pub returns-else-sent-as_bytes-clause-stays : goal.returns-else-sent-as_bytes-clause-stays
returns-else-sent-as_bytes-clause-stays c more = absurd (omega (arith, more, c.if-sent-as_bytes.false, ap length c.as_bytes.ensures))
