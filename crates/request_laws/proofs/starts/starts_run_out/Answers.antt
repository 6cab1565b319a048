use Rattle.request_laws.proofs.StartLemmas.{bind, chosen_untried, fail, few, freed, queues, registered, yours}
use Rattle.request_laws.proofs.starts.starts_run_out.Goals as goal

pub returns : goal.returns
returns c =
    let proved = c.history_laws.ensures in
    record {
      untried = chosen_untried proved;
      yours = yours proved;
      bind = bind;
      fail = fail;
      freed = freed;
      queues = queues;
      registered = registered;
      few = few proved;
    }
