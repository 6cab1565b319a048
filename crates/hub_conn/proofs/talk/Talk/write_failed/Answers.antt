use Rattle.std.proofs.Common.{◌∙◌, sym}
use Rattle.std.specs.Prelude.{Err}
use Rattle.conn_script.specs.declared.wants.ConnFault.TheVariants as faults
use Rattle.hub_conn.proofs.FeedLemmas.{feeds_broken, feeds_write_failed}
use Rattle.hub_conn.proofs.StateLemmas.{done_settles}
use Rattle.hub_conn.proofs.talk.Talk.write_failed.Goals as goal

pub returns-in-Writing : goal.returns-in-Writing
returns-in-Writing c =
    feeds_broken c.args.self.now c.take_state.new.self c.broken_off.new.self c.in-Writing.out (sym c.take_state.ensures.taken ∙ c.in-Writing.is) c.take_state.ensures.rests
    c.broken_off.ensures.settles c.broken_off.ensures.breaks c.broken_off.ensures.less

pub returns : goal.returns
returns c =
    feeds_write_failed c.args.self.now c.fail.new.self c.requires.awaits (λ out e. c.in_default.not-Writing out (c.take_state.ensures.taken ∙ e))
    (done_settles c.fail.new.self (Err faults.Write) c.fail.ensures) c.fail.ensures
