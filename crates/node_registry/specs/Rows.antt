-- What a row of the table tells of its node.
use Rattle.std.specs.Prelude.{◌≡◌, ℕ, List, Some, min}
use Rattle.grid_types.specs.declared.entry.Entry.{Entry}
use Rattle.grid_types.specs.Nodes.{registration_of, base_of, is_suspected, bound_count, beat_of}
use Rattle.node_registry.specs.declared.node_table.NodeRow.{NodeRow}
use Rattle.node_registry.specs.Table.{most_bound}

-- the row is as the history has the node
pub record RowTells (H : List Entry) (n : ℕ) (row : NodeRow) : Type 0 where
  pub registration : registration_of H n ≡ Some row.registration
  pub base : base_of H n ≡ Some row.base
  pub suspected : is_suspected H n ≡ row.suspected
  pub bound : row.bound ≡ min (bound_count H n) most_bound
  pub beat : row.beat ≡ record { 0 = beat_of H n }

-- the fact holds of each history and node that the row is of
pub record OfNode (row : NodeRow) (fact : List Entry → ℕ → Type 0) : Type 0 where
  pub of : (H : List Entry) (n : ℕ) → RowTells H n row → fact H n
