use Rattle.conn_script.proofs.PassLemmas.{passed_ok}
use Rattle.conn_script.proofs.responses.passed_on.Goals as goal

pub returns : goal.returns
returns c =
    passed_ok c.write_response.result c.args.reply.now c.args.close c.as_bytes-reason.result.now c.as_bytes-body.result.now
    c.lent-content_type.result c.lent-content_encoding.result c.lent-cache_control.result
    c.as_bytes-reason.ensures c.as_bytes-body.ensures c.lent-content_type.ensures c.lent-content_encoding.ensures c.lent-cache_control.ensures
    c.write_response.ensures
