use Rattle.std.proofs.Common.{◌≡◌, ◌≤◌, ℕ, subst, false, nat_eq, cond, arith, sym, ap, ◌∙◌}
use Rattle.std.specs.Prelude.{Some, Result, Ok, Err, OnOk, is_err}
use Rattle.std.specs.Map.{lookup}
use Rattle.std.specs.BTreeMap as tree
use Rattle.indexmap.specs.IndexMap.{get}
use Rattle.grid_types.specs.declared.names.Moment.{Moment}
use Rattle.session_map.specs.declared.live_map.LiveMap.{LiveMap}
use Rattle.session_map.specs.declared.live_map.LiveSession.{LiveSession}
use Rattle.session_map.specs.declared.live_map.Place.{Place}
use Rattle.session_map.specs.Names.{session_cmp}
use Rattle.session_map.specs.Table.{is_placeholder}
use Rattle.session_map.proofs.Placeholders.{place-put}
use Rattle.session_map.proofs.Steps.{stands-Bound, quiet-write}
use Rattle.session_map.proofs.live_map.LiveMap.bound.Goals as goal

ok-of : {A E : Type 0} {P : Type 0} (r : Result A E) → is_err r ≡ false → OnOk r P → P
ok-of (Ok a) e h = h
ok-of (Err x) e h = absurd (cc)

pub returns-clause-stands : goal.returns-clause-stands
returns-clause-stands c =
    let proved = c.history_laws.ensures in
    λ k. record {
      after = λ g H where_it_is s l.
          let old : LiveMap = c.args.self.now in
          let new : LiveMap = c.note_use.new.self in
          let live : LiveSession = record { session = c.args.session; slot = c.args.slot; active = c.args.at } in
          let place : Place = record { slot = c.args.slot; address = c.args.address; binding = c.args.request } in
          let wrote = ok-of c.insert.result (sym c.is_err.ensures.value ∙ c.if-is_err.false) c.insert.ensures.updates in
          let sessions = rw c.unwrap.ensures at c.insert-2.ensures.updates in
          let rows : (b : ℕ) → get nat_eq new.sessions b ≡ cond (nat_eq c.args.request b) (Some live) (get nat_eq old.sessions b) =
          λ b. ap (λ m. get nat_eq m b) c.note_use.ensures.sessions ∙ sessions.0 b ∙ ap (λ m. cond (nat_eq c.args.request b) (Some live) (get nat_eq m b)) c.fill_placeholder.ensures.sessions ∙ ap (λ es. cond (nat_eq c.args.request b) (Some live) (lookup (nat_eq b) es)) c.in_ok-reserve.ensures.entries in
          stands-Bound proved g H k c.args.request c.args.slot c.args.session c.args._caps.now c.args.at c.args.address old new s where_it_is l rows
          (place-put old new c.args.session place (λ x. ap (λ q. is_placeholder q x) c.note_use.ensures.placeholder ∙ c.fill_placeholder.ensures.filled x)
          (λ x. ap (λ m. tree.get session_cmp m x) (c.note_use.ensures.places ∙ c.fill_placeholder.ensures.same_places) ∙ (rw (← c.of.ensures) (wrote.0 x))))
          (quiet-write old new c.args.request (λ (b : ℕ). Some live) s.quiet rows (subst (λ (m : Moment). new.quiet_since.0 ≤ m.0) c.fill_placeholder.ensures.quiet c.note_use.ensures.earlier) (λ b x h. let same : live ≡ x = cc in let at : c.args.at.0 ≡ x.active.0 = ap (λ (z : LiveSession). z.active.0) same in omega (arith, c.note_use.ensures.noted)))
          (rw c.note_use.ensures.sessions c.insert-2.ensures.unique) (rw (c.note_use.ensures.places ∙ c.fill_placeholder.ensures.same_places) c.insert.ensures.ordered);
    }
