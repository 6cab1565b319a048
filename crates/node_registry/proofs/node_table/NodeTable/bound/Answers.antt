use Rattle.std.proofs.Common.{◌≡◌, rules, nat_eq, cond, refl, sym, ap, ◌∙◌}
use Rattle.std.specs.Prelude.{Some}
use Rattle.indexmap.specs.IndexMap.{get, keys}
use Rattle.grid_types.specs.declared.entry.Change.TheVariants as change
use Rattle.node_registry.specs.declared.node_table.NodeRow.{NodeRow}
use Rattle.node_registry.proofs.Rows.{with_bind, row-Bound}
use Rattle.node_registry.proofs.Steps.{stands-write, rows-none, rows-some}
use Rattle.node_registry.proofs.QuietLemmas.{same-bounds, bound-within}
use Rattle.node_registry.proofs.node_table.NodeTable.bound.Goals as goal

pub returns-in_default : goal.returns-in_default
returns-in_default c =
    let proved = c.history_laws.ensures in
    λ k. record {
      after = λ c' H s l.
          let same = c.get_mut.follows.holds-at-none in
          stands-write proved c' H k c.args.slot.node (change.Bound c.args._request c.args.slot c.args._session c.args._caps.now c.args._at) with_bind _ _ s l (row-Bound H k c.args._request c.args.slot c.args._session c.args._caps.now c.args._at) refl (λ n. refl)
          (λ n. ap (λ z. get nat_eq z n) same ∙ rows-none c.args.slot.node with_bind (get nat_eq c.args.self.now.nodes) (sym c.in_default.ensures.value) n)
          (ap keys same) refl (rw same s.nodes_differ) (same-bounds _ _ refl refl refl) (λ row here within. bound-within row within);
    }

pub returns-in-Some : goal.returns-in-Some
returns-in-Some c =
    let proved = c.history_laws.ensures in
    λ k. record {
      after = λ c' H s l.
          let there = sym c.in-Some.ensures.value in
          let now : NodeRow = record { registration = c.in-Some.used.now.registration; base = c.in-Some.used.now.base; suspected = c.in-Some.used.now.suspected; bound = c.saturating_add-used.result; beat = c.in-Some.used.now.beat; turn = c.in-Some.used.now.turn } in
          let counted : now ≡ with_bind c.in-Some.used.now = rw c.saturating_add-used.ensures refl in
          let written = c.get_mut.follows.holds now in
          let rows = (written.3 (rw there (search rules))).0 in
          stands-write proved c' H k c.args.slot.node (change.Bound c.args._request c.args.slot c.args._session c.args._caps.now c.args._at) with_bind _ _ s l (row-Bound H k c.args._request c.args.slot c.args._session c.args._caps.now c.args._at) refl (λ n. refl)
          (rows-some c.args.slot.node with_bind (get nat_eq c.args.self.now.nodes) _ c.in-Some.used.now there (λ n. rows n ∙ ap (λ (z : NodeRow). cond (nat_eq c.args.slot.node n) (Some z) (get nat_eq c.args.self.now.nodes n)) counted))
          written.1 refl written.4 (same-bounds _ _ refl refl refl) (λ row here within. bound-within row within);
    }
