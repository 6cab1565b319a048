use Rattle.std.proofs.Common.{rules}
use Rattle.loop_node.proofs.ReplyLemmas.{moves_found}
use Rattle.loop_node.proofs.node.LoopNode.set_url.Goals as goal

pub returns-in-Some-clause-answers : goal.returns-in-Some-clause-answers
returns-in-Some-clause-answers c =
    moves_found c.move_to.result c.args.self.now _ c.args.id.now c.args.body.now c.in-Some.place (search rules) c.move_to.ensures.answers
