use Rattle.std.proofs.Common.{rules}
use Rattle.loop_node.proofs.ReplyLemmas.{url_replied}
use Rattle.loop_node.proofs.node.LoopNode.url.Goals as goal

pub returns-in_ok-value_body-in-Some : goal.returns-in_ok-value_body-in-Some
returns-in_ok-value_body-in-Some c =
    url_replied c.success.result c.args.self.now c.args.id.now c.in-Some.place c.index.result.now c.in_ok-json-in-Some.json c.in_ok-value_body-in-Some.field-0
    (search rules) (search rules) (search rules) (search rules) c.success.ensures
