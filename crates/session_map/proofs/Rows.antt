-- What one more entry does to what the table keeps.
use Rattle.std.proofs.Common.{◌≡◌, ℕ, Bool, true, false, cond, not, List, ◌∷◌, refl, arith}
use Rattle.std.specs.Prelude.{Option, None, Some, nat_eq, bytes_eq, option_map}
use Rattle.std.proofs.lemmas.Map.Entries.{option_filter}
use Rattle.grid_types.specs.declared.entry.Entry.{Entry}
use Rattle.grid_types.specs.declared.entry.Change.TheVariants as change
use Rattle.grid_types.specs.declared.entry.EndCause.{EndCause}
use Rattle.grid_types.specs.declared.names.SlotId.{SlotId}
use Rattle.grid_types.specs.declared.names.Moment.{Moment}
use Rattle.grid_types.specs.declared.capabilities.Cap.{Cap}
use Rattle.grid_types.specs.declared.config.HubConfig.{HubConfig}
use Rattle.grid_types.specs.Nodes.{address_of}
use Rattle.grid_types.specs.Bindings.{Running, bound_of}
use Rattle.grid_types.specs.Sessions.{is_live, live, is_at_node}
use Rattle.grid_types.specs.Legal.{legal}
use Rattle.session_map.specs.declared.live_map.LiveSession.{LiveSession}
use Rattle.session_map.specs.declared.live_map.Place.{Place}
use Rattle.grid_types.specs.Tables.{entry}
use Rattle.grid_types.specs.HistoryLaws.{Known, laws}
use Rattle.session_map.specs.Names.{session_eq}
use Rattle.session_map.specs.Table.{session_row, place_row, place_of}
use Rattle.session_map.proofs.SessionNames.{session_eq-is}

-- by its binding
pub session-Bound : (H : List Entry) (k r : ℕ) (t : SlotId) (y : List ℕ) (cs : List Cap) (at : Moment) (b : ℕ) →
    session_row (entry k (change.Bound r t y cs at) ∷ H) b ≡ cond (nat_eq r b) (Some (record { session = y; slot = t; active = at })) (session_row H b)
session-Bound H k r t y cs at b = elim (nat_eq r b) as (λ v. nat_eq r b ≡ v → session_row (entry k (change.Bound r t y cs at) ∷ H) b ≡ cond v (Some (record { session = y; slot = t; active = at })) (session_row H b)) [
  | true ↦ λ e. rw e refl
  | false ↦ λ e. rw e refl
] refl

abbrev pub touch_row : Moment → Option LiveSession → Option LiveSession
touch_row at o = option_map (λ x. record { session = x.session; slot = x.slot; active = at }) o

pub session-Touched : (H : List Entry) (k q : ℕ) (at : Moment) (b : ℕ) →
    session_row (entry k (change.Touched q at) ∷ H) b ≡ cond (nat_eq q b) (touch_row at (session_row H b)) (session_row H b)
session-Touched H k q at b = by_bound (bound_of H b) refl (nat_eq q b) refl (is_live H b) refl
  where
    by_bound : (o : Option Running) → bound_of H b ≡ o → (v : Bool) → nat_eq q b ≡ v → (w : Bool) → is_live H b ≡ w →
        session_row (entry k (change.Touched q at) ∷ H) b ≡ cond (nat_eq q b) (touch_row at (session_row H b)) (session_row H b)
    by_bound None d v e w f = rw (d, e) (grind arith)
    by_bound (Some x) d true e true f = rw (d, e, f) refl
    by_bound (Some x) d true e false f = rw (d, e, f) refl
    by_bound (Some x) d false e w f = rw (d, e) refl

pub session-Ended : (H : List Entry) (k q : ℕ) (cause : EndCause) (at : Moment) (b : ℕ) →
    session_row (entry k (change.Ended q cause at) ∷ H) b ≡ cond (nat_eq q b) None (session_row H b)
session-Ended H k q cause at b = by_bound (bound_of H b) refl (nat_eq q b) refl
  where
    by_bound : (o : Option Running) → bound_of H b ≡ o → (v : Bool) → nat_eq q b ≡ v →
        session_row (entry k (change.Ended q cause at) ∷ H) b ≡ cond (nat_eq q b) None (session_row H b)
    by_bound None d v e = rw (d, e) (grind arith)
    by_bound (Some x) d true e = rw (d, e) refl
    by_bound (Some x) d false e = rw (d, e) refl

-- the session is not on the node
abbrev pub stays : ℕ → LiveSession → Bool
stays n x = not (nat_eq x.slot.node n)

abbrev pub place_stays : ℕ → Place → Bool
place_stays n x = not (nat_eq x.slot.node n)

pub session-Lapsed : (H : List Entry) (k n : ℕ) (at : Moment) (b : ℕ) →
    session_row (entry k (change.Lapsed n at) ∷ H) b ≡ option_filter (stays n) (session_row H b)
session-Lapsed H k n at b = by_bound (bound_of H b) refl
  where
    by_bound : (o : Option Running) → bound_of H b ≡ o → session_row (entry k (change.Lapsed n at) ∷ H) b ≡ option_filter (stays n) (session_row H b)
    by_bound None d = rw d refl
    by_bound (Some x) d = grind arith

-- by its id
pub place-Bound : Known → (c : HubConfig) (H : List Entry) (k r : ℕ) (t : SlotId) (y : List ℕ) (cs : List Cap) (at : Moment) (s : List ℕ) →
    legal c (entry k (change.Bound r t y cs at) ∷ H) ≡ true →
    place_row (entry k (change.Bound r t y cs at) ∷ H) s ≡ cond (session_eq y s) (Some (record { slot = t; address = address_of H t.node; binding = r })) (place_row H s)
place-Bound proved c H k r t y cs at s l = rw ((laws proved).live-Bound c H k r t y cs at s l, session_eq-is y s) (elim (bytes_eq y s) as (λ v. option_map place_of (cond v (Some (record { session = y; slot = t; address = address_of H t.node; binding = r })) (live H s)) ≡ cond v (Some (record { slot = t; address = address_of H t.node; binding = r })) (place_row H s)) [ true ↦ refl | false ↦ refl ])

pub place-Lapsed : Known → (c : HubConfig) (H : List Entry) (k n : ℕ) (at : Moment) (s : List ℕ) → legal c H ≡ true →
    place_row (entry k (change.Lapsed n at) ∷ H) s ≡ option_filter (place_stays n) (place_row H s)
place-Lapsed proved c H k n at s l = rw ((laws proved).live-Lapsed c H k n at s l) (by_live (live H s))
  where
    by_live : (o : Option Running) → option_map place_of (cond (is_at_node n o) None o) ≡ option_filter (place_stays n) (option_map place_of o)
    by_live None = refl
    by_live (Some x) = grind arith
