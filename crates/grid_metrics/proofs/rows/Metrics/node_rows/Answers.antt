use Rattle.grid_metrics.proofs.RowLemmas.{last_behind, row_behind}
use Rattle.grid_metrics.proofs.rows.Metrics.node_rows.Goals as goal

pub returns : goal.returns
returns c = last_behind c.single-6.result _ _ _ _ c.single-6.ensures (row_behind _ _ _ _ c.in_ok-single-5.ensures (row_behind _ _ _ _ c.in_ok-single-4.ensures (row_behind _ _ _ _ c.in_ok-single-3.ensures (row_behind _ _ _ _ c.in_ok-single-2.ensures c.in_ok-single.ensures))))
