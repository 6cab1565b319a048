use Rattle.server_words.proofs.HostLemmas.{no_host}
use Rattle.server_words.proofs.host.host_in.Goals as goal

pub returns-in-None : goal.returns-in-None
returns-in-None c = no_host c.args.text.now c.in-Err.ensures c.in-None.ensures
