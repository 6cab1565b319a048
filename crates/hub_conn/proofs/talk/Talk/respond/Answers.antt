use Rattle.std.proofs.Common.{arith, refl, []}
use Rattle.http_frames.specs.declared.frames.TheConstants.{LIMITS}
use Rattle.hub_conn.specs.declared.talk.State.TheVariants as states
use Rattle.hub_conn.specs.Talk.{of_nothing}
use Rattle.hub_conn.proofs.PassLemmas.{writes_in}
use Rattle.hub_conn.proofs.WriteLemmas.{responds}
use Rattle.hub_conn.proofs.StateLemmas.{settles_in}
use Rattle.std.proofs.Common.{ap, length}
use Rattle.hub_conn.proofs.WorkLemmas.{responded_leaves}
use Rattle.hub_conn.proofs.talk.Talk.respond.Goals as goal

pub overflow_sub-self : goal.overflow_sub-self
overflow_sub-self c =
    let a = c.requires in
    let l = c.next-left.ensures a.0 a.1 a.2 in
    omega (arith, l.3, c.stays.ensures.some LIMITS a.0 a.1.0 a.1.1 l.0 l.1, a.4)

pub returns-clause-responds : goal.returns-clause-responds
returns-clause-responds c =
    responds (λ limits buf h parts behind x. c.stays.ensures.some limits buf h parts behind x) c.args.self.now _ c.args.bytes c.args.is_last c.args.kept
    c.next_after-then.result c.next-left.result (record {
      state = refl;
      read = refl;
      begins = refl;
      frames = refl;
      short = refl;
      continued = refl;
      leaves = λ rest f x. c.next-left.ensures rest f x;
    }) c.next_after-then.ensures

pub returns-clause-settles : goal.returns-clause-settles
returns-clause-settles c = settles_in _ (states.Writing (record { bytes = c.args.bytes; sent = 0; then = c.next_after-then.result; kept = c.args.kept })) of_nothing [] refl refl refl refl refl

pub returns-clause-less : goal.returns-clause-less
returns-clause-less c =
    let a = c.requires in
    let l = c.next-left.ensures a.0 a.1 a.2 in
    responded_leaves c.args.self.now _ c.args.bytes c.next_after-then.result c.args.kept c.next-left.result (length a.0) refl refl refl a.4
    (omega (arith, l.3, c.stays.ensures.some LIMITS a.0 a.1.0 a.1.1 l.0 l.1)) (omega (arith, ap length c.as_bytes-length.ensures))

pub returns-clause-writes : goal.returns-clause-writes
returns-clause-writes c = writes_in _ (states.Writing (record { bytes = c.args.bytes; sent = 0; then = c.next_after-then.result; kept = c.args.kept })) refl
