use Rattle.conn_script.proofs.CreateLemmas.{pause_turns}
use Rattle.conn_script.proofs.creating.polls_again.Goals as goal

pub returns-clause-turns : goal.returns-clause-turns
returns-clause-turns c = pause_turns c.args.ticket
