use Rattle.std.proofs.Common.{rules, nat_eq, ◌∷◌, refl, sym, subst}
use Rattle.indexmap.specs.IndexMap.{get}
use Rattle.grid_types.specs.declared.entry.Change.TheVariants as change
use Rattle.grid_types.specs.Tables.{entry}
use Rattle.node_registry.specs.declared.node_table.NodeTable.{NodeTable}
use Rattle.node_registry.specs.Table.{Stands}
use Rattle.node_registry.proofs.Rows.{with_turn}
use Rattle.node_registry.proofs.Queries.{chosen-there}
use Rattle.node_registry.proofs.Steps.{stands-Reserved, rows-some}
use Rattle.node_registry.proofs.QuietLemmas.{same-bounds}
use Rattle.node_registry.proofs.node_table.NodeTable.reserved.Goals as goal
use Rattle.node_registry.proofs.node_table.NodeTable.reserved.Goals.{in-Some-get_mut, in_default-get_mut}

pub returns-clause-stands : goal.returns-clause-stands
returns-clause-stands c =
    let proved = c.history_laws.ensures in
    λ k. record {
      after = λ c' H s l.
          elim c.match-get_mut.branch [
            | in-Some-get_mut w ↦ (
                let row = w.in-Some-get_mut.chosen.now in
                let there = sym w.in-Some-get_mut.ensures.value in
                let written = c.get_mut.follows.holds (with_turn c.in-Some.turn row) in
                let Stood : NodeTable → Type 0 = λ z. Stands (record z { newest_turn = c.in-Some.turn }) (entry k (change.Reserved c.args._request c.args.slot c.args._choice c.args._at) ∷ H) in
                subst Stood (sym w.self-is)
                (stands-Reserved proved c' H k c.args._request c.args.slot c.args._choice c.args._at row c.args.self.now _ s l there
                (rows-some c.args.slot.node (with_turn c.in-Some.turn) (get nat_eq c.args.self.now.nodes) _ row there (written.3 (rw there (search rules))).0)
                written.1 c.in-Some.ensures.1 written.4 (same-bounds _ _ refl refl refl))
                )
            | in_default-get_mut w ↦ chosen-there proved c' H k c.args._request c.args.slot c.args._choice c.args._at c.args.self.now s l w.in_default-get_mut.ensures.value
          ];
    }
