use Rattle.std.proofs.Common.{refl, []}
use Rattle.std.specs.Prelude.{Err}
use Rattle.conn_script.specs.declared.wants.ConnFault.TheVariants as faults
use Rattle.conn_script.specs.declared.wants.End.TheVariants as ends
use Rattle.hub_conn.specs.declared.talk.State.TheVariants as states
use Rattle.hub_conn.specs.declared.talk.Then.TheVariants as after
use Rattle.hub_conn.specs.declared.talk.Kept.TheVariants as kept
use Rattle.hub_conn.specs.Talk.{of_nothing}
use Rattle.hub_conn.proofs.LookLemmas.{refuses_so, refuse_broke}
use Rattle.hub_conn.proofs.StateLemmas.{done_settles, settles_in}
use Rattle.std.proofs.Common.{ap, length, arith}
use Rattle.hub_conn.proofs.WorkLemmas.{done_leaves, refused_leaves}
use Rattle.hub_conn.proofs.talk.Talk.refuse.Goals as goal

pub returns-in-Ok-clause-refuses : goal.returns-in-Ok-clause-refuses
returns-in-Ok-clause-refuses c =
    refuses_so (λ limits buf h parts behind x. c.stays.ensures.some limits buf h parts behind x) c.args.self.now _ c.args.why c.in-Ok.bytes c.in-Ok.ensures refl
    (record { inbox = refl; read = refl; begins = refl; frames = refl }) refl

pub returns-in-Ok-clause-settles : goal.returns-in-Ok-clause-settles
returns-in-Ok-clause-settles c =
    settles_in _ (states.Writing (record { bytes = c.in-Ok.bytes; sent = 0; then = after.End (ends.Refused c.args.why c.args.self.now.begins); kept = kept.Nothing })) of_nothing [] refl refl refl refl refl

pub returns-in-Err-clause-refuses : goal.returns-in-Err-clause-refuses
returns-in-Err-clause-refuses c = refuse_broke c.args.self.now c.fail.new.self c.args.why c.fail.ensures

pub returns-in-Err-clause-settles : goal.returns-in-Err-clause-settles
returns-in-Err-clause-settles c = done_settles c.fail.new.self (Err faults.Memory) c.fail.ensures

pub returns-in-Ok-clause-less : goal.returns-in-Ok-clause-less
returns-in-Ok-clause-less c = refused_leaves _ (record { bytes = c.in-Ok.bytes; sent = 0; then = after.End (ends.Refused c.args.why c.args.self.now.begins); kept = kept.Nothing }) (ends.Refused c.args.why c.args.self.now.begins) refl refl (omega (arith, ap length c.as_bytes-length.ensures))

pub returns-in-Err-clause-less : goal.returns-in-Err-clause-less
returns-in-Err-clause-less c = done_leaves _ c.fail.new.self (Err faults.Memory) c.fail.ensures
