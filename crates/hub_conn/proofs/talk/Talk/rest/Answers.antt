use Rattle.hub_conn.proofs.RestLemmas.{is_rested}
use Rattle.hub_conn.proofs.talk.Talk.rest.Goals as goal

pub returns-clause-rested : goal.returns-clause-rested
returns-clause-rested c = is_rested c.args.self.now _ _ c.rest.ensures.same
