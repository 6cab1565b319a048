use Rattle.loop_node.proofs.WritingLemmas.{response_told}
use Rattle.loop_node.proofs.writing.response_of.Goals as goal

pub returns : goal.returns
returns c =
    response_told c.write_response.result c.args.reply.now _ _ _ _ _ c.args.close c.as_bytes.ensures c.as_bytes-2.ensures c.lent.ensures c.lent-2.ensures c.lent-3.ensures c.write_response.ensures
