-- What one more entry does to what the table keeps of a node.
use Rattle.std.proofs.Common.{◌≡◌, ℕ, ◌+◌, Bool, true, false, cond, List, ◌∷◌, refl, ap, ◌∙◌, arith}
use Rattle.std.specs.Prelude.{Option, None, Some, nat_eq, option_map, min, unwrap_or}
use Rattle.grid_types.specs.declared.entry.Entry.{Entry}
use Rattle.grid_types.specs.declared.entry.Change.TheVariants as change
use Rattle.grid_types.specs.declared.names.SlotId.{SlotId}
use Rattle.grid_types.specs.declared.names.Moment.{Moment}
use Rattle.grid_types.specs.declared.view.Standing.{Standing}
use Rattle.grid_types.specs.declared.view.Standing.TheVariants as standing
use Rattle.grid_types.specs.declared.capabilities.Cap.{Cap}
use Rattle.grid_types.specs.declared.capabilities.Registration.{Registration}
use Rattle.grid_types.specs.Nodes.{registration_of, base_of, is_suspected, bound_count, beat_of}
use Rattle.node_registry.specs.declared.node_table.NodeRow.{NodeRow}
use Rattle.grid_types.specs.Tables.{entry}
use Rattle.node_registry.specs.Table.{row_of, most_bound}

abbrev pub with_beat : Moment → NodeRow → NodeRow
with_beat at row = record { registration = row.registration; base = row.base; suspected = false; bound = row.bound; beat = at; turn = row.turn }

abbrev pub with_base : Standing → NodeRow → NodeRow
with_base s row = record { registration = row.registration; base = s; suspected = row.suspected; bound = row.bound; beat = row.beat; turn = row.turn }

abbrev pub with_suspicion : NodeRow → NodeRow
with_suspicion row = record { registration = row.registration; base = row.base; suspected = true; bound = row.bound; beat = row.beat; turn = row.turn }

abbrev pub with_bind : NodeRow → NodeRow
with_bind row = record { registration = row.registration; base = row.base; suspected = row.suspected; bound = min (row.bound + 1) most_bound; beat = row.beat; turn = row.turn }

-- the number of a reservation as the node's last one
abbrev pub with_turn : ℕ → NodeRow → NodeRow
with_turn turn row = record { registration = row.registration; base = row.base; suspected = row.suspected; bound = row.bound; beat = row.beat; turn = turn }

-- the row of a node that has just registered
abbrev pub new_row : Registration → Moment → ℕ → NodeRow
new_row r at turn = record { registration = r; base = standing.Up; suspected = false; bound = 0; beat = at; turn = turn }

-- an entry of node m writes its row so
abbrev pub Rewrites : List Entry → Entry → ℕ → (NodeRow → NodeRow) → Type 0
Rewrites H e m f = (n turn : ℕ) → row_of (e ∷ H) n turn ≡ cond (nat_eq m n) (option_map f (row_of H n turn)) (row_of H n turn)

same-count : (count : ℕ) → min (0 + count) most_bound ≡ min count most_bound
same-count count = omega arith

-- an entry that tells nothing of the row leaves it
pub row-uncounted : (H : List Entry) (n turn : ℕ) → option_map (λ r. record { registration = r; base = unwrap_or (base_of H n) standing.Gone; suspected = is_suspected H n; bound = min (0 + bound_count H n) most_bound; beat = record { 0 = beat_of H n }; turn = turn }) (registration_of H n) ≡ row_of H n turn
row-uncounted H n turn = rw (same-count (bound_count H n)) refl

pub row-Registered : (H : List Entry) (k m : ℕ) (r : Registration) (at : Moment) → is_suspected H m ≡ false → bound_count H m ≡ 0 → (n turn : ℕ) →
    row_of (entry k (change.Registered m r at) ∷ H) n turn ≡ cond (nat_eq m n) (Some (new_row r at turn)) (row_of H n turn)
row-Registered H k m r at trusted unbound n turn = by_node (registration_of H n) refl (nat_eq m n) refl
  where
    by_node : (o : Option Registration) → registration_of H n ≡ o → (v : Bool) → nat_eq m n ≡ v →
        row_of (entry k (change.Registered m r at) ∷ H) n turn ≡ cond (nat_eq m n) (Some (new_row r at turn)) (row_of H n turn)
    by_node o d true e =
        let same : m ≡ n = grind arith in
        let calm : is_suspected H n ≡ false = rw (← same) trusted in
        let none : bound_count H n ≡ 0 = rw (← same) unbound in
        let base : base_of (entry k (change.Registered m r at) ∷ H) n ≡ Some standing.Up = rw e refl in
        let beat : beat_of (entry k (change.Registered m r at) ∷ H) n ≡ at.0 = rw e refl in
        let low : min (0 + bound_count H n) most_bound ≡ 0 = same-count (bound_count H n) ∙ ap (λ (z : ℕ). min z most_bound) none in
        rw (e, base, beat, calm, low) refl
    by_node None d false e = rw (d, e) refl
    by_node (Some q) d false e =
        let base : base_of (entry k (change.Registered m r at) ∷ H) n ≡ base_of H n = rw e refl in
        let beat : beat_of (entry k (change.Registered m r at) ∷ H) n ≡ beat_of H n = rw e refl in
        rw (d, e, base, beat, same-count (bound_count H n)) refl

pub row-Draining : (H : List Entry) (k m : ℕ) (at : Moment) → Rewrites H (entry k (change.Draining m at)) m (with_base standing.Draining)
row-Draining H k m at n turn = by_node (registration_of H n) refl (nat_eq m n) refl
  where
    by_node : (o : Option Registration) → registration_of H n ≡ o → (v : Bool) → nat_eq m n ≡ v →
        row_of (entry k (change.Draining m at) ∷ H) n turn ≡ cond (nat_eq m n) (option_map (with_base standing.Draining) (row_of H n turn)) (row_of H n turn)
    by_node None d true e = rw (d, e) refl
    by_node None d false e = rw (d, e) refl
    by_node (Some r) d true e = rw (d, e, same-count (bound_count H n)) refl
    by_node (Some r) d false e = rw (d, e, same-count (bound_count H n)) refl

pub row-Removed : (H : List Entry) (k m : ℕ) (at : Moment) → Rewrites H (entry k (change.Removed m at)) m (with_base standing.Gone)
row-Removed H k m at n turn = by_node (registration_of H n) refl (nat_eq m n) refl
  where
    by_node : (o : Option Registration) → registration_of H n ≡ o → (v : Bool) → nat_eq m n ≡ v →
        row_of (entry k (change.Removed m at) ∷ H) n turn ≡ cond (nat_eq m n) (option_map (with_base standing.Gone) (row_of H n turn)) (row_of H n turn)
    by_node None d true e = rw (d, e) refl
    by_node None d false e = rw (d, e) refl
    by_node (Some r) d true e = rw (d, e, same-count (bound_count H n)) refl
    by_node (Some r) d false e = rw (d, e, same-count (bound_count H n)) refl

pub row-Lapsed : (H : List Entry) (k m : ℕ) (at : Moment) → Rewrites H (entry k (change.Lapsed m at)) m (with_base standing.Down)
row-Lapsed H k m at n turn = by_node (registration_of H n) refl (nat_eq m n) refl
  where
    by_node : (o : Option Registration) → registration_of H n ≡ o → (v : Bool) → nat_eq m n ≡ v →
        row_of (entry k (change.Lapsed m at) ∷ H) n turn ≡ cond (nat_eq m n) (option_map (with_base standing.Down) (row_of H n turn)) (row_of H n turn)
    by_node None d true e = rw (d, e) refl
    by_node None d false e = rw (d, e) refl
    by_node (Some r) d true e = rw (d, e, same-count (bound_count H n)) refl
    by_node (Some r) d false e = rw (d, e, same-count (bound_count H n)) refl

pub row-Beaten : (H : List Entry) (k m : ℕ) (at : Moment) → Rewrites H (entry k (change.Beaten m at)) m (with_beat at)
row-Beaten H k m at n turn = by_node (registration_of H n) refl (nat_eq m n) refl
  where
    by_node : (o : Option Registration) → registration_of H n ≡ o → (v : Bool) → nat_eq m n ≡ v →
        row_of (entry k (change.Beaten m at) ∷ H) n turn ≡ cond (nat_eq m n) (option_map (with_beat at) (row_of H n turn)) (row_of H n turn)
    by_node None d true e = rw (d, e) refl
    by_node None d false e = rw (d, e) refl
    by_node (Some r) d true e = rw (d, e, same-count (bound_count H n)) refl
    by_node (Some r) d false e = rw (d, e, same-count (bound_count H n)) refl

pub row-Suspected : (H : List Entry) (k m : ℕ) (at : Moment) → Rewrites H (entry k (change.Suspected m at)) m with_suspicion
row-Suspected H k m at n turn = by_node (registration_of H n) refl (nat_eq m n) refl
  where
    by_node : (o : Option Registration) → registration_of H n ≡ o → (v : Bool) → nat_eq m n ≡ v →
        row_of (entry k (change.Suspected m at) ∷ H) n turn ≡ cond (nat_eq m n) (option_map with_suspicion (row_of H n turn)) (row_of H n turn)
    by_node None d true e = rw (d, e) refl
    by_node None d false e = rw (d, e) refl
    by_node (Some r) d true e = rw (d, e, same-count (bound_count H n)) refl
    by_node (Some r) d false e = rw (d, e, same-count (bound_count H n)) refl

-- one more, up to the count's end
one-more : (count : ℕ) → min (1 + count) most_bound ≡ min (min count most_bound + 1) most_bound
one-more count = omega arith

pub row-Bound : (H : List Entry) (k r : ℕ) (s : SlotId) (x : List ℕ) (cs : List Cap) (at : Moment) → Rewrites H (entry k (change.Bound r s x cs at)) s.node with_bind
row-Bound H k r s x cs at n turn = by_node (registration_of H n) refl (nat_eq s.node n) refl
  where
    by_node : (o : Option Registration) → registration_of H n ≡ o → (v : Bool) → nat_eq s.node n ≡ v →
        row_of (entry k (change.Bound r s x cs at) ∷ H) n turn ≡ cond (nat_eq s.node n) (option_map with_bind (row_of H n turn)) (row_of H n turn)
    by_node None d true e = rw (d, e) refl
    by_node None d false e = rw (d, e) refl
    by_node (Some q) d true e = rw (d, e, one-more (bound_count H n)) refl
    by_node (Some q) d false e = rw (d, e, same-count (bound_count H n)) refl
