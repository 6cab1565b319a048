use Rattle.std.proofs.Common.{[], ◌∷◌, ◌++◌, nat_eq, cond, refl, ap, ◌∙◌}
use Rattle.std.specs.Prelude.{Some}
use Rattle.std.specs.Map.{lookup, keys_of}
use Rattle.indexmap.proofs.CallerLemmas.{insert_entry-new}
use Rattle.node_registry.proofs.Keys.{keys-last}
use Rattle.node_registry.proofs.Rows.{new_row}
use Rattle.node_registry.proofs.Steps.{stands-Registered}
use Rattle.node_registry.proofs.QuietLemmas.{earlier-before, earlier-sign, new-within}
use Rattle.node_registry.proofs.node_table.NodeTable.registered.Goals as goal

pub returns-clause-stands : goal.returns-clause-stands
returns-clause-stands c =
    let proved = c.history_laws.ensures in
    λ k. record {
      after = λ c' H s l.
          let updates = rw c.unwrap.ensures at c.insert.ensures.updates in
          let entries = rw c.unwrap.ensures at c.insert.ensures.entries in
          let same = c.in_ok-reserve.ensures.entries in
          let copy = c.in_ok-clone.ensures.cases in
          stands-Registered proved c' H k c.args.node c.args.registration.now c.args.at _ _ s l
          (λ n. updates.0 n ∙ (rw copy (ap (λ es. cond (nat_eq c.args.node n) (Some (new_row c.args.registration.now c.args.at 0)) (lookup (nat_eq n) es)) same)))
          (λ absent. ap keys_of (entries ∙ insert_entry-new nat_eq c.reserve.new.self c.args.node _ (ap (lookup (nat_eq c.args.node)) same ∙ absent)) ∙ keys-last _ _ _ ∙ ap (λ es. keys_of es ++ c.args.node ∷ []) same)
          refl c.insert.ensures.unique
          (record { signs = earlier-before _ _ _ c.earlier-self.ensures; heard = earlier-before _ _ _ c.earlier-self-2.ensures; drains = λ h. h })
          (new-within c.args.registration.now c.args.at 0 (earlier-sign _ _ _ c.earlier-self.ensures) (earlier-sign _ _ _ c.earlier-self-2.ensures));
    }
