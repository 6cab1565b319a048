use Rattle.std.proofs.Common.{rules}
use Rattle.grid_outside.specs.Exchanges.{ask_of}
use Rattle.loop_node.proofs.SizeLemmas.{answer_small}
use Rattle.loop_node.proofs.node.LoopNode.answer.Goals as goal

pub returns-clause-within : goal.returns-clause-within
returns-clause-within c = answer_small c.reply_to.result c.args.self.now _ (ask_of c.args.request.now) (search rules) c.reply_to.ensures.answers
