use Rattle.grid_metrics.proofs.RowLemmas.{last_behind, row_behind}
use Rattle.grid_metrics.proofs.rows.Metrics.level_rows.Goals as goal

pub returns : goal.returns
returns c = last_behind c.time.result _ _ _ _ c.time.ensures (row_behind _ _ _ _ c.in_ok-family.ensures (row_behind _ _ _ _ c.in_ok-single-3.ensures (row_behind _ _ _ _ c.in_ok-single-2.ensures c.in_ok-single.ensures)))
