use Rattle.std.proofs.Common.{refl, []}
use Rattle.std.specs.Prelude.{Err}
use Rattle.conn_script.specs.declared.undoing.Undoing.TheVariants as undo
use Rattle.hub_conn.specs.declared.talk.State.TheVariants as states
use Rattle.hub_conn.specs.Talk.{result_cause}
use Rattle.hub_conn.proofs.PassLemmas.{writes_in}
use Rattle.hub_conn.proofs.GoLemmas.{undoing_stands}
use Rattle.hub_conn.proofs.StateLemmas.{settles_in}
use Rattle.std.proofs.Common.{arith}
use Rattle.hub_conn.proofs.WorkLemmas.{leaves_in}
use Rattle.hub_conn.proofs.talk.Talk.undo.Goals as goal

pub returns-clause-ends : goal.returns-clause-ends
returns-clause-ends c = undoing_stands _ c.args.fault c.args.session c.args.binding refl

pub returns-clause-settles : goal.returns-clause-settles
returns-clause-settles c =
    settles_in _ (states.Undoing c.args.fault (undo.End c.args.session c.args.binding)) (result_cause (Err c.args.fault)) [] refl refl refl refl refl

pub returns-clause-less : goal.returns-clause-less
returns-clause-less c = leaves_in 4 _ (states.Undoing c.args.fault (undo.End c.args.session c.args.binding)) refl (λ o. omega arith)

pub returns-clause-writes : goal.returns-clause-writes
returns-clause-writes c = writes_in _ (states.Undoing c.args.fault (undo.End c.args.session c.args.binding)) refl
