use Rattle.std.proofs.Common.{◌≡◌, nat_eq, refl, sym, ap, subst, ◌∙◌}
use Rattle.std.specs.Prelude.{Option, None, Some, IfNone}
use Rattle.std.specs.Map.{lookup, keys_of}
use Rattle.indexmap.specs.IndexMap.{IsUnchanged}
use Rattle.indexmap.proofs.CallerLemmas.{keys-shift_remove_entry}
use Rattle.node_registry.specs.declared.node_table.NodeRow.{NodeRow}
use Rattle.node_registry.specs.declared.node_table.NodeTable.{NodeTable}
use Rattle.node_registry.specs.Table.{Stands}
use Rattle.node_registry.proofs.Steps.{stands-forget, stands-same}
use Rattle.node_registry.proofs.QuietLemmas.{same-bounds}
use Rattle.node_registry.proofs.node_table.NodeTable.forget.Goals as goal

pub returns-clause-stands : goal.returns-clause-stands
returns-clause-stands c = record {
  still = λ c' H s l off.
      let left : NodeTable = record c.args.self.now { nodes = c.shift_remove.new.self } in
      elim c.shift_remove.result as (λ (o : Option NodeRow). c.shift_remove.result ≡ o → Stands left H) [
        | Some row ↦ λ e.
            stands-forget H c.args.node row _ _ s off (sym c.shift_remove.ensures.value ∙ e) c.shift_remove.ensures.updates.0
            (ap keys_of c.shift_remove.ensures.entries ∙ keys-shift_remove_entry (nat_eq c.args.node) c.args.self.now.nodes.entries)
            refl c.shift_remove.ensures.unique (same-bounds _ _ refl refl refl)
        | None ↦ λ e.
            let same = subst (λ (o : Option NodeRow). IfNone o (IsUnchanged c.args.self.now.nodes c.shift_remove.new.self)) e c.shift_remove.ensures.unchanged in
            stands-same H c.args.self.now _ s (λ n. ap (lookup (nat_eq n)) same) (ap keys_of same) refl c.shift_remove.ensures.unique (same-bounds _ _ refl refl refl)
      ] refl;
}
