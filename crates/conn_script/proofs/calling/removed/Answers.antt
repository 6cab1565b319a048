use Rattle.std.proofs.Common.{refl, ap}
use Rattle.std.specs.Prelude.{codes}
use Rattle.grid_types.specs.Calls.{Reply}
use Rattle.hub_core.specs.Replies.{removal_reply}
use Rattle.conn_script.specs.Responses.{success}
use Rattle.conn_script.specs.Messages.{node_response, no_such_node}
use Rattle.conn_script.proofs.TurnLemmas.{responds}
use Rattle.conn_script.proofs.calling.removed.Goals as goal

pub returns-in-Removed : goal.returns-in-Removed
returns-in-Removed c = responds (removal_reply c.args.answer) node_response Reply.removed (success (codes "null")) c.args.close c.success.result (ap removal_reply c.in-Removed.is) refl c.success.ensures

pub returns-in-NoNode : goal.returns-in-NoNode
returns-in-NoNode c = responds (removal_reply c.args.answer) node_response Reply.no_node no_such_node c.args.close c.no_such_node.result (ap removal_reply c.in-NoNode.is) refl c.no_such_node.ensures
