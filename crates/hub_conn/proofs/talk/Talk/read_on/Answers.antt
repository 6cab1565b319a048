use Rattle.std.proofs.Common.{arith, refl, []}
use Rattle.conn_script.specs.declared.wants.End.TheVariants as ends
use Rattle.std.specs.Prelude.{Ok}
use Rattle.hub_conn.specs.declared.talk.State.TheVariants as states
use Rattle.hub_conn.specs.Talk.{of_nothing}
use Rattle.hub_conn.proofs.LookLemmas.{reads_limit, reads_more_of}
use Rattle.hub_conn.proofs.StateLemmas.{done_settles, settles_in}
use Rattle.hub_conn.specs.Work.{bytes_left, read_work}
use Rattle.hub_conn.proofs.WorkLemmas.{done_leaves, leaves_in}
use Rattle.hub_conn.proofs.talk.Talk.read_on.Goals as goal

pub returns-then-self-eq-LIMIT-clause-reads : goal.returns-then-self-eq-LIMIT-clause-reads
returns-then-self-eq-LIMIT-clause-reads c =
    reads_limit (λ limits buf h parts behind x. c.stays.ensures.some limits buf h parts behind x) (λ limits h x. c.one_head.ensures.none limits h x)
    c.args.self.now c.end_so.new.self (omega (arith, c.if-self-eq-LIMIT.true)) c.end_so.ensures

pub returns-then-self-eq-LIMIT-clause-settles : goal.returns-then-self-eq-LIMIT-clause-settles
returns-then-self-eq-LIMIT-clause-settles c =
    done_settles c.end_so.new.self (Ok (record { frames = c.args.self.now.frames; end = ends.Limit; short = c.args.self.now.short })) c.end_so.ensures

pub returns-else-self-eq-LIMIT-clause-reads : goal.returns-else-self-eq-LIMIT-clause-reads
returns-else-self-eq-LIMIT-clause-reads c =
    reads_more_of c.args.self.now _ (λ e. omega (arith, e, c.if-self-eq-LIMIT.false)) refl (record {
      same = record { inbox = refl; read = refl; begins = refl; frames = refl };
      short = refl;
      continued = refl;
      closing = refl;
    })

pub returns-else-self-eq-LIMIT-clause-settles : goal.returns-else-self-eq-LIMIT-clause-settles
returns-else-self-eq-LIMIT-clause-settles c = settles_in _ states.Reading of_nothing [] refl refl refl refl refl

pub returns-then-self-eq-LIMIT-clause-less : goal.returns-then-self-eq-LIMIT-clause-less
returns-then-self-eq-LIMIT-clause-less c = done_leaves _ c.end_so.new.self (Ok (record { frames = c.args.self.now.frames; end = ends.Limit; short = c.args.self.now.short })) c.end_so.ensures

pub returns-else-self-eq-LIMIT-clause-less : goal.returns-else-self-eq-LIMIT-clause-less
returns-else-self-eq-LIMIT-clause-less c = leaves_in (read_work (bytes_left c.args.self.now)) _ states.Reading refl (λ o. omega arith)
