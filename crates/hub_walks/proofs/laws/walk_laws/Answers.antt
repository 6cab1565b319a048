use Rattle.grid_types.specs.HistoryLaws as of_history
use Rattle.hub_walks.specs.Laws.{Known}
use Rattle.hub_walks.proofs.laws.walk_laws.Goals as goal

pub returns : goal.returns
unfolding Known
returns c = record {
  history = of_history.laws c.history_laws.ensures;
  kinds = c.kind_laws.ensures;
  requests = c.requests_are_in_order.ensures;
  nodes-in-order = c.known_nodes_are_in_order.ensures;
  fold-chooses = c.fold_gives_first.ensures.chooses;
  kept-full = c.fold_gives_first.ensures.full;
}
