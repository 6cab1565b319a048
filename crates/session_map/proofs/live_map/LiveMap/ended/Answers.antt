use Rattle.std.proofs.Common.{◌≡◌, ℕ, nat_eq, cond, refl, sym, ap, ◌∙◌, arith}
use Rattle.indexmap.specs.IndexMap.{get}
use Rattle.grid_types.specs.declared.names.Moment.{Moment}
use Rattle.std.proofs.Math.Nat.{le_refl}
use Rattle.session_map.specs.declared.live_map.LiveMap.{LiveMap}
use Rattle.std.specs.Prelude.{Option, None}
use Rattle.session_map.specs.declared.live_map.LiveSession.{LiveSession}
use Rattle.session_map.proofs.Steps.{stands-Ended, stands-Ended_none, quiet-write}
use Rattle.session_map.proofs.live_map.LiveMap.ended.Goals as goal

abbrev nothing : ℕ → Option LiveSession
nothing b = None

pub returns-in-Some : goal.returns-in-Some
returns-in-Some c =
    let proved = c.history_laws.ensures in
    λ k. record {
      after = λ g H s l.
          let old : LiveMap = c.args.self.now in
          let new : LiveMap = c.remove_place.new.self in
          let rows : (b : ℕ) → get nat_eq new.sessions b ≡ cond (nat_eq c.args.binding b) None (get nat_eq old.sessions b) =
          λ b. ap (λ m. get nat_eq m b) c.remove_place.ensures.sessions ∙ c.swap_remove.ensures.updates.0 b in
          stands-Ended proved g H k c.args.binding c.args._cause c.args._at c.in-Some.ended old new s l (sym c.in-Some.ensures.value) rows c.remove_place.ensures.places
          (quiet-write old new c.args.binding nothing s.quiet rows (let same : new.quiet_since.0 ≡ old.quiet_since.0 = ap (λ (m : Moment). m.0) c.remove_place.ensures.quiet in omega arith) (λ b x h. absurd (cc)))
          (rw c.remove_place.ensures.sessions c.swap_remove.ensures.unique) c.remove_place.ensures.in_order;
    }

pub returns-in_default : goal.returns-in_default
returns-in_default c =
    let proved = c.history_laws.ensures in
    λ k. record {
      after = λ g H s l.
          let new : LiveMap = record { sessions = c.swap_remove.new.self; places = c.args.self.now.places; placeholder = c.args.self.now.placeholder; quiet_since = c.args.self.now.quiet_since } in
          stands-Ended_none proved g H k c.args.binding c.args._cause c.args._at c.args.self.now new s l (sym c.in_default.ensures.value) c.swap_remove.ensures.updates.0 (λ x. refl)
          (quiet-write c.args.self.now new c.args.binding nothing s.quiet c.swap_remove.ensures.updates.0 (le_refl c.args.self.now.quiet_since.0) (λ b x h. absurd (cc))) c.swap_remove.ensures.unique s.in_order;
    }
