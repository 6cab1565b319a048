use Rattle.std.proofs.Common.{refl, ap}
use Rattle.std.specs.Prelude.{codes}
use Rattle.grid_types.specs.Calls.{Reply}
use Rattle.hub_core.specs.Replies.{draining_reply}
use Rattle.conn_script.specs.Responses.{success}
use Rattle.conn_script.specs.Messages.{node_response, no_such_node}
use Rattle.conn_script.proofs.TurnLemmas.{responds}
use Rattle.conn_script.proofs.calling.drained.Goals as goal

pub returns-in-Draining : goal.returns-in-Draining
returns-in-Draining c = responds (draining_reply c.args.answer) node_response Reply.draining (success (codes "null")) c.args.close c.success.result (ap draining_reply c.in-Draining.is) refl c.success.ensures

pub returns-in-NoNode : goal.returns-in-NoNode
returns-in-NoNode c = responds (draining_reply c.args.answer) node_response Reply.no_node no_such_node c.args.close c.no_such_node.result (ap draining_reply c.in-NoNode.is) refl c.no_such_node.ensures
