use Rattle.grid_types.specs.Requests.{place}
use Rattle.hub_core.proofs.WithdrawLemmas.{gone-waits}
use Rattle.hub_core.proofs.hub.HubCore.is_waiting.Goals as goal

pub returns-in-None : goal.returns-in-None
returns-in-None c = record {
  of = λ H s. gone-waits (place H c.args.request) (c.in-None.ensures.of c.args.self.now.config H s.tables_stand s.is_legal);
}
