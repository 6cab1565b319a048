use Rattle.std.proofs.Common.{rules, ◌≡◌, ℕ, nat_eq, refl, ap, ◌∙◌}
use Rattle.std.specs.Map.{lookup, keys_of}
use Rattle.std.specs.Cmp.{nat_eq_equiv}
use Rattle.std.proofs.lemmas.Map.Entries.{option_filter, lookup-filter-values}
use Rattle.std.proofs.lemmas.Map.Keys.{IsDistinct-from_sorted}
use Rattle.indexmap.proofs.CallerLemmas.{filter-RetainsPairs}
use Rattle.indexmap.specs.IndexMap.{get}
use Rattle.session_map.specs.declared.live_map.LiveMap.{LiveMap}
use Rattle.session_map.specs.Names.{session_cmp, session_eq}
use Rattle.session_map.proofs.SessionNames.{session_eq-equivalence}
use Rattle.session_map.proofs.Rows.{stays, place_stays}
use Rattle.session_map.proofs.Placeholders.{place-sifted}
use Rattle.session_map.proofs.Steps.{stands-Lapsed, quiet-filter}
use Rattle.session_map.proofs.live_map.LiveMap.lapsed.Goals as goal

pub returns : goal.returns
returns c =
    let proved = c.history_laws.ensures in
    λ k. record {
      after = λ g H s l.
          let old : LiveMap = c.args.self.now in
          let new : LiveMap = record { sessions = c.retain.new.self; places = c.retain-2.new.self; placeholder = old.placeholder; quiet_since = old.quiet_since } in
          let rows : (b : ℕ) → get nat_eq new.sessions b ≡ option_filter (stays c.args.node) (get nat_eq old.sessions b) =
          λ b. ap (lookup (nat_eq b)) (filter-RetainsPairs _ (λ e. stays c.args.node e.1) _ (λ q v x w f call. search rules) _ _ c.retain.ensures.filtered)
          ∙ lookup-filter-values nat_eq_equiv (stays c.args.node) b _ s.bindings_differ in
          stands-Lapsed proved g H k c.args.node c.args._at old new s l rows
          (place-sifted old new (place_stays c.args.node) refl (λ x. ap (lookup (session_eq x)) (filter-RetainsPairs _ (λ e. place_stays c.args.node e.1) _ (λ q v y w f call. search rules) _ _ c.retain-2.ensures.filtered)
          ∙ lookup-filter-values session_eq-equivalence (place_stays c.args.node) x _ (IsDistinct-from_sorted session_cmp (keys_of old.places.entries) s.in_order)))
          (quiet-filter old new (stays c.args.node) s.quiet rows refl) c.retain.ensures.unique c.retain-2.ensures.ordered;
    }
