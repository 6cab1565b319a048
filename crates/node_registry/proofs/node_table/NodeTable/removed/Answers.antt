use Rattle.std.proofs.Common.{rules, nat_eq, refl, sym, ap, ◌∙◌}
use Rattle.indexmap.specs.IndexMap.{get, keys}
use Rattle.grid_types.specs.declared.entry.Change.TheVariants as change
use Rattle.grid_types.specs.declared.view.Standing.TheVariants as standing
use Rattle.node_registry.proofs.Rows.{with_base, row-Removed}
use Rattle.node_registry.proofs.Steps.{stands-write, rows-none, rows-some}
use Rattle.node_registry.proofs.QuietLemmas.{same-bounds, gone-within}
use Rattle.node_registry.proofs.node_table.NodeTable.removed.Goals as goal

pub returns-in_default : goal.returns-in_default
returns-in_default c =
    let proved = c.history_laws.ensures in
    λ k. record {
      after = λ c' H s l.
          let same = c.get_mut.follows.holds-at-none in
          stands-write proved c' H k c.args.node (change.Removed c.args.node c.args._at) (with_base standing.Gone) _ _ s l (row-Removed H k c.args.node c.args._at) refl (λ n. refl)
          (λ n. ap (λ z. get nat_eq z n) same ∙ rows-none c.args.node (with_base standing.Gone) (get nat_eq c.args.self.now.nodes) (sym c.in_default.ensures.value) n)
          (ap keys same) refl (rw same s.nodes_differ) (same-bounds _ _ refl refl refl) (λ row here within. gone-within row);
    }

pub returns-in-Some : goal.returns-in-Some
returns-in-Some c =
    let proved = c.history_laws.ensures in
    λ k. record {
      after = λ c' H s l.
          let there = sym c.in-Some.ensures.value in
          let written = c.get_mut.follows.holds (with_base standing.Gone c.in-Some.gone.now) in
          stands-write proved c' H k c.args.node (change.Removed c.args.node c.args._at) (with_base standing.Gone) _ _ s l (row-Removed H k c.args.node c.args._at) refl (λ n. refl)
          (rows-some c.args.node (with_base standing.Gone) (get nat_eq c.args.self.now.nodes) _ c.in-Some.gone.now there (written.3 (rw there (search rules))).0)
          written.1 refl written.4 (same-bounds _ _ refl refl refl) (λ row here within. gone-within row);
    }
