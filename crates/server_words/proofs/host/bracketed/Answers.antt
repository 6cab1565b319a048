use Rattle.server_words.proofs.HostLemmas.{not_bracketed}
use Rattle.server_words.proofs.host.bracketed.Goals as goal

pub returns-in-Err : goal.returns-in-Err
returns-in-Err c = not_bracketed c.args.text.now c.in-Some.inner.now c.in-Some.ensures c.in-Err.ensures
