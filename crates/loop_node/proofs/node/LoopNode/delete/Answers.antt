use Rattle.std.proofs.Common.{rules, sym}
use Rattle.loop_node.proofs.ReplyLemmas.{deleted_at}
use Rattle.loop_node.proofs.node.LoopNode.delete.Goals as goal

pub returns-in_ok-reply-in-Some-clause-answers : goal.returns-in_ok-reply-in-Some-clause-answers
returns-in_ok-reply-in-Some-clause-answers c =
    deleted_at c.args.self.now _ c.args.id.now c.in-Some.place c.in_ok-reply-in-Some.reply _ (sym c.self.view_is) (search rules) (search rules) (search rules)
