use Rattle.std.proofs.Common.{◌∙◌}
use Rattle.loop_node.proofs.StopLemmas.{stops_behind, asked_so}
use Rattle.loop_node.proofs.writing.respond.Goals as goal

pub returns-in-Ok-reply_to-clause-stops : goal.returns-in-Ok-reply_to-clause-stops
returns-in-Ok-reply_to-clause-stops g c =
    stops_behind c.write_reply.result c.args.node.now c.reply_to.new.node c.args.frame.now c.in-Ok-reply_to.reply _ _
    (λ h parts f. asked_so c.args.node.now c.reply_to.new.node c.in-Ok-reply_to.reply c.args.frame.now.method.now c.args.frame.now.target.now c.as_bytes.result.now h parts f.head.method f.head.target
    (c.as_bytes.ensures ∙ c.in-Ok.ensures parts (c.parts.ensures parts f.body)) c.in-Ok-reply_to.ensures.answers)
    c.write_reply.ensures.front
