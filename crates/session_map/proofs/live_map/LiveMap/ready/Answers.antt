use Rattle.std.proofs.Common.{◌≡◌, ℕ, ◌≤◌, nat_eq, sym, ap, subst, ◌∙◌}
use Rattle.std.specs.Map.{lookup}
use Rattle.indexmap.specs.IndexMap.{get}
use Rattle.grid_types.specs.declared.names.Moment.{Moment}
use Rattle.session_map.specs.declared.live_map.LiveMap.{LiveMap}
use Rattle.session_map.proofs.Placeholders.{place-plain}
use Rattle.session_map.proofs.live_map.LiveMap.ready.Goals as goal

pub returns-clause-keeps : goal.returns-clause-keeps
returns-clause-keeps c = record {
  still = λ H s.
      let old : LiveMap = c.args.self.now in
      let mid : LiveMap = c.drop_placeholder.new.self in
      let rows : (b : ℕ) → get nat_eq mid.sessions b ≡ get nat_eq old.sessions b =
      λ b. ap (λ m. get nat_eq m b) c.drop_placeholder.ensures.sessions ∙ ap (λ es. lookup (nat_eq b) es) c.in_ok-reserve.ensures.entries in
      c.put_placeholder.ensures.keeps.still H (record {
        sessions = λ b. rows b ∙ s.sessions b;
        places = λ x. place-plain mid c.drop_placeholder.ensures.placeholder x ∙ (c.drop_placeholder.ensures.places x ∙ s.places x);
        quiet = λ b x there. subst (λ (m : Moment). m.0 ≤ x.active.0) (sym c.drop_placeholder.ensures.quiet) (s.quiet b x (sym (rows b) ∙ there));
        bindings_differ = rw c.drop_placeholder.ensures.sessions c.in_ok-reserve.ensures.unique;
        in_order = c.drop_placeholder.ensures.in_order s.in_order;
      });
}
