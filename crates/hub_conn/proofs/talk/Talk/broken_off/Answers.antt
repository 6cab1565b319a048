use Rattle.std.specs.Prelude.{Err}
use Rattle.conn_script.specs.declared.wants.ConnFault.TheVariants as faults
use Rattle.hub_conn.proofs.WriteLemmas.{breaks_kept, breaks_nothing}
use Rattle.hub_conn.proofs.StateLemmas.{done_settles}
use Rattle.hub_conn.proofs.WorkLemmas.{done_leaves}
use Rattle.hub_conn.proofs.talk.Talk.broken_off.Goals as goal

pub returns-in-Created-clause-breaks : goal.returns-in-Created-clause-breaks
returns-in-Created-clause-breaks c =
    breaks_kept c.args.self.now c.undo.new.self c.args.out.now c.in-Created.session c.in-Created.binding c.in-Created.is c.undo.ensures.ends

pub returns-in-Nothing-clause-breaks : goal.returns-in-Nothing-clause-breaks
returns-in-Nothing-clause-breaks c = breaks_nothing c.args.self.now c.fail.new.self c.args.out.now c.in-Nothing.is c.fail.ensures

pub returns-in-Nothing-clause-settles : goal.returns-in-Nothing-clause-settles
returns-in-Nothing-clause-settles c = done_settles c.fail.new.self (Err faults.Write) c.fail.ensures

pub returns-in-Created-clause-less : goal.returns-in-Created-clause-less
returns-in-Created-clause-less c = c.undo.ensures.less

pub returns-in-Nothing-clause-less : goal.returns-in-Nothing-clause-less
returns-in-Nothing-clause-less c = done_leaves 4 c.fail.new.self (Err faults.Write) c.fail.ensures
