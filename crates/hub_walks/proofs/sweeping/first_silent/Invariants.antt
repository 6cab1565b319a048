use Rattle.std.proofs.Common.{◌≡◌, drop}
use Rattle.std.specs.Prelude.{find}
use Rattle.grid_types.specs.Tables.{Tells}
use Rattle.node_registry.specs.Table.{Stands, known}
use Rattle.hub_walks.specs.Sweeping.{is_silent, is_from}
use Rattle.hub_walks.proofs.sweeping.first_silent.Given as goal

-- it is among the nodes that are left
abbrev pub invariant-loop-index : goal.invariant-loop-index
invariant-loop-index l =
    Tells Stands l.nodes (λ H. find (is_from l.from (is_silent l.config H l.fn.at.0)) (drop l.index (known l.nodes)) ≡ find (is_from l.from (is_silent l.config H l.fn.at.0)) (known l.nodes))
