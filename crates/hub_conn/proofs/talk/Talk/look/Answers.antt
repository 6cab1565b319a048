use Rattle.std.specs.Prelude.{Err}
use Rattle.conn_script.specs.declared.wants.ConnFault.TheVariants as faults
use Rattle.hub_conn.proofs.LookLemmas.{look_broke}
use Rattle.hub_conn.proofs.StateLemmas.{done_settles}
use Rattle.hub_conn.proofs.WorkLemmas.{done_leaves}
use Rattle.hub_conn.proofs.talk.Talk.look.Goals as goal

pub returns-in-Err-clause-looks : goal.returns-in-Err-clause-looks
returns-in-Err-clause-looks c = look_broke c.args.self.now c.fail.new.self c.in-Err.ensures.some c.fail.ensures

pub returns-in-Err-clause-settles : goal.returns-in-Err-clause-settles
returns-in-Err-clause-settles c = done_settles c.fail.new.self (Err faults.Memory) c.fail.ensures

pub returns-in-Ok-clause-less : goal.returns-in-Ok-clause-less
returns-in-Ok-clause-less c = c.look_first.ensures.less

pub returns-in-Err-clause-less : goal.returns-in-Err-clause-less
returns-in-Err-clause-less c = done_leaves _ c.fail.new.self (Err faults.Memory) c.fail.ensures
