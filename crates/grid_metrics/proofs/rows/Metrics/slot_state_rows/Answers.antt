use Rattle.grid_metrics.proofs.RowLemmas.{last_behind, row_behind}
use Rattle.grid_metrics.proofs.rows.Metrics.slot_state_rows.Goals as goal

pub returns : goal.returns
returns c = last_behind c.series-4.result _ _ _ _ c.series-4.ensures (row_behind _ _ _ _ c.in_ok-series-3.ensures (row_behind _ _ _ _ c.in_ok-series-2.ensures (row_behind _ _ _ _ c.in_ok-series.ensures c.in_ok-family.ensures)))
