use Rattle.std.specs.Prelude.{Err}
use Rattle.conn_script.specs.declared.wants.ConnFault.TheVariants as faults
use Rattle.hub_conn.proofs.FeedLemmas.{feeds_read_failed}
use Rattle.hub_conn.proofs.StateLemmas.{done_settles}
use Rattle.hub_conn.proofs.talk.Talk.read_failed.Goals as goal

pub returns : goal.returns
returns c =
    feeds_read_failed (λ limits buf h parts behind x. c.stays.ensures.some limits buf h parts behind x) (λ limits h x. c.one_head.ensures.none limits h x)
    c.args.self.now c.fail.new.self c.requires.reading (done_settles c.fail.new.self (Err faults.Read) c.fail.ensures) c.fail.ensures
