use Rattle.std.proofs.Common.{rules, nat_eq, refl, sym, ap, ◌∙◌}
use Rattle.indexmap.specs.IndexMap.{get, keys}
use Rattle.grid_types.specs.declared.entry.Change.TheVariants as change
use Rattle.node_registry.proofs.Rows.{with_beat, row-Beaten}
use Rattle.node_registry.proofs.Steps.{stands-write, rows-none, rows-some}
use Rattle.node_registry.proofs.QuietLemmas.{earlier-before, earlier-sign, sign-within}
use Rattle.node_registry.proofs.node_table.NodeTable.beaten.Goals as goal

pub returns-in_default : goal.returns-in_default
returns-in_default c =
    let proved = c.history_laws.ensures in
    λ k. record {
      after = λ c' H s l.
          let same = c.get_mut.follows.holds-at-none in
          stands-write proved c' H k c.args.node (change.Beaten c.args.node c.args.at) (with_beat c.args.at) _ _ s l (row-Beaten H k c.args.node c.args.at) refl (λ n. refl)
          (λ n. ap (λ z. get nat_eq z n) same ∙ rows-none c.args.node (with_beat c.args.at) (get nat_eq c.args.self.now.nodes) (sym c.in_default.ensures.value) n)
          (ap keys same) refl (rw same s.nodes_differ)
          (record { signs = earlier-before _ _ _ c.earlier-self.ensures; heard = earlier-before _ _ _ c.earlier-self-2.ensures; drains = λ h. h })
          (λ row here within. sign-within row c.args.at (earlier-sign _ _ _ c.earlier-self.ensures) (earlier-sign _ _ _ c.earlier-self-2.ensures) within);
    }

pub returns-in-Some : goal.returns-in-Some
returns-in-Some c =
    let proved = c.history_laws.ensures in
    λ k. record {
      after = λ c' H s l.
          let there = sym c.in-Some.ensures.value in
          let written = c.get_mut.follows.holds (with_beat c.args.at c.in-Some.alive.now) in
          stands-write proved c' H k c.args.node (change.Beaten c.args.node c.args.at) (with_beat c.args.at) _ _ s l (row-Beaten H k c.args.node c.args.at) refl (λ n. refl)
          (rows-some c.args.node (with_beat c.args.at) (get nat_eq c.args.self.now.nodes) _ c.in-Some.alive.now there (written.3 (rw there (search rules))).0)
          written.1 refl written.4
          (record { signs = earlier-before _ _ _ c.earlier-self.ensures; heard = earlier-before _ _ _ c.earlier-self-2.ensures; drains = λ h. h })
          (λ row here within. sign-within row c.args.at (earlier-sign _ _ _ c.earlier-self.ensures) (earlier-sign _ _ _ c.earlier-self-2.ensures) within);
    }
