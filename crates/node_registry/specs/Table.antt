-- What it is for a table of nodes to stand for a history.
use Rattle.std.specs.Prelude.{◌≡◌, ℕ, ◌<◌, ◌≤◌, Bool, true, false, cond, not, map, nat_eq, nat_le, nat_lt, List, Option, None, Some, is_some, ◌&&◌, bytes_eq, option_map, unwrap_or, filter, min, ◌^◌, ◌-◌}
use Rattle.std.specs.List.{list_any, reduce}
use Rattle.indexmap.specs.IndexMap.{get, keys, IsUnique}
use Rattle.grid_types.specs.declared.entry.Entry.{Entry}
use Rattle.grid_types.specs.declared.names.Moment.{Moment}
use Rattle.grid_types.specs.declared.view.Standing.TheVariants as standing
use Rattle.grid_types.specs.declared.capabilities.Registration.{Registration}
use Rattle.grid_types.specs.History.{nodes}
use Rattle.grid_types.specs.Nodes.{registration_of, base_of, is_suspected, is_registered, is_suspect, is_draining, bound_count, beat_of, turned, stands_draining, stands_registered}
use Rattle.grid_types.specs.Slots.{is_listed}
use Rattle.node_registry.specs.declared.node_table.NodeRow.{NodeRow}
use Rattle.node_registry.specs.declared.node_table.NodeTable.{NodeTable}

-- where the count of a node's bound sessions stands still
abbrev pub most_bound : ℕ
most_bound = 2 ^ 64 - 1

-- what the table keeps of a node that registered so, with the number of its last reservation
abbrev pub row_with : List Entry → ℕ → ℕ → Registration → NodeRow
row_with H n turn r = record {
  registration = r;
  base = unwrap_or (base_of H n) standing.Gone;
  suspected = is_suspected H n;
  bound = min (bound_count H n) most_bound;
  beat = record { 0 = beat_of H n };
  turn = turn;
}

-- what the table keeps of a node, with this number
abbrev pub row_of : List Entry → ℕ → ℕ → Option NodeRow
row_of H n turn = option_map (row_with H n turn) (registration_of H n)

-- the number of the last reservation in a row, 0 where there is no row
abbrev pub turn_in : Option NodeRow → ℕ
turn_in None = 0
turn_in (Some row) = row.turn

-- the number of the node's last reservation, which is greater for a later one
abbrev pub last_turn : NodeTable → ℕ → ℕ
last_turn t n = turn_in (get nat_eq t.nodes n)

-- the nodes that the table knows, by ascending number
abbrev pub known : NodeTable → List ℕ
known t = keys t.nodes

-- the table knows the node
abbrev pub knows : NodeTable → ℕ → Bool
knows t n = is_some (get nat_eq t.nodes n)

-- the row is of a registered node with this name
abbrev pub is_row_named : List ℕ → ℕ × NodeRow → Bool
is_row_named name e = stands_registered (Some e.1.base) && bytes_eq e.1.registration.name name

-- a registered node, whether it is suspect or not, gave its last sign no earlier than `quiet_since`, one that is not
-- suspect no earlier than `heard_since`, and one drains only where `some_drain` is set
pub record IsWithin (quiet_since heard_since : ℕ) (some_drain : Bool) (row : NodeRow) : Type 0 where
  pub signs : stands_registered (Some row.base) ≡ true → quiet_since ≤ row.beat.0
  pub heard : stands_registered (Some row.base) ≡ true → row.suspected ≡ false → heard_since ≤ row.beat.0
  pub drains : stands_draining (Some row.base) ≡ true → some_drain ≡ true

-- this is so of each row
abbrev pub Quiet : NodeTable → Type 0
Quiet t = (n : ℕ) (row : NodeRow) → get nat_eq t.nodes n ≡ Some row → IsWithin t.quiet_since.0 t.heard_since.0 t.some_drain row

-- the table keeps every listed node, and may have dropped those that are not
pub record Stands (t : NodeTable) (H : List Entry) : Type 0 where
  pub kept : ℕ → Bool
  pub unregistered : (n : ℕ) → registration_of H n ≡ None → kept n ≡ true
  pub listed : (n : ℕ) → is_listed H n ≡ true → kept n ≡ true
  pub rows : (n : ℕ) → get nat_eq t.nodes n ≡ cond (kept n) (row_of H n (last_turn t n)) None
  pub order : keys t.nodes ≡ filter kept (nodes H)
  pub turns : (n m : ℕ) → kept n ≡ true → kept m ≡ true → nat_lt (last_turn t n) (last_turn t m) ≡ nat_lt (turned H n) (turned H m)
  pub never : (n : ℕ) → kept n ≡ true → nat_eq (last_turn t n) 0 ≡ nat_eq (turned H n) 0
  pub newest : (n : ℕ) → last_turn t n ≤ t.newest_turn
  pub nodes_differ : IsUnique nat_eq t.nodes
  pub quiet : Quiet t

-- what is noted tells that no registered node has been silent for so many milliseconds, and none that is not suspect
abbrev pub is_quiet : NodeTable → ℕ → ℕ → Bool
is_quiet t at silent_ms = nat_lt (at - t.quiet_since.0) silent_ms

abbrev pub is_heard : NodeTable → ℕ → ℕ → Bool
is_heard t at silent_ms = nat_lt (at - t.heard_since.0) silent_ms

-- the last moment that there is
abbrev pub last_moment : ℕ
last_moment = 2 ^ 64 - 1

-- the last sign of a registered node, and that of one that is not suspect, for any other row the last moment
abbrev pub sign_in : NodeRow → ℕ
sign_in row = cond (stands_registered (Some row.base)) row.beat.0 last_moment

abbrev pub heard_in : NodeRow → ℕ
heard_in row = cond (stands_registered (Some row.base) && not row.suspected) row.beat.0 last_moment

-- these of all rows
abbrev pub signs_of : NodeTable → List ℕ
signs_of t = map (λ e. sign_in e.1) t.nodes.entries

abbrev pub heard_of : NodeTable → List ℕ
heard_of t = map (λ e. heard_in e.1) t.nodes.entries

-- the row is of a node that drains
abbrev pub is_draining_row : ℕ × NodeRow → Bool
is_draining_row e = stands_draining (Some e.1.base)

-- What is noted once the rows were looked at, which is where it does not tell enough. Where there is no row it is the
-- moment of the look.
abbrev pub noted_sign : NodeTable → ℕ → ℕ → ℕ
noted_sign t at silent_ms = cond (is_quiet t at silent_ms) t.quiet_since.0 (unwrap_or (reduce min (signs_of t)) at)

abbrev pub noted_heard : NodeTable → ℕ → ℕ → ℕ
noted_heard t at silent_ms = cond (is_heard t at silent_ms) t.heard_since.0 (unwrap_or (reduce min (heard_of t)) at)

abbrev pub noted_drain : NodeTable → Bool
noted_drain t = t.some_drain && list_any is_draining_row t.nodes.entries

-- the table notes at the moment what it has to, for nodes that are suspect after so many milliseconds without a sign and
-- down after so many
pub record NotesQuiet (old new : NodeTable) (at lapse_ms down_ms : ℕ) : Type 0 where
  pub signs : new.quiet_since.0 ≡ noted_sign old at down_ms
  pub heard : new.heard_since.0 ≡ noted_heard old at lapse_ms
  pub drains : new.some_drain ≡ noted_drain old

-- no registered node has been silent for so many milliseconds at the moment, and none that is not suspect
abbrev pub NoneSilent : List Entry → ℕ → ℕ → Type 0
NoneSilent H at silent_ms = (n : ℕ) → is_registered H n ≡ true → nat_le silent_ms (at - beat_of H n) ≡ false

abbrev pub NoneUnheard : List Entry → ℕ → ℕ → Type 0
NoneUnheard H at silent_ms = (n : ℕ) → is_registered H n ≡ true → is_suspect H n ≡ false → nat_le silent_ms (at - beat_of H n) ≡ false

-- no node drains
abbrev pub NoneDrains : List Entry → Type 0
NoneDrains H = (n : ℕ) → is_draining H n ≡ false

-- a node with the moment of its last sign
abbrev pub signed : List Entry → ℕ → ℕ × Moment
signed H n = (n, record { 0 = beat_of H n })

-- the node is registered and not suspect
abbrev pub is_trusted : List Entry → ℕ → Bool
is_trusted H n = is_registered H n && not (is_suspect H n)

-- there is a number for one more reservation
abbrev pub HasRoom : NodeTable → Type 0
HasRoom t = t.newest_turn < 2 ^ 64 - 1

-- the numbers of registered nodes have the order of their last reservations
abbrev pub TurnsOrder : Type 0
TurnsOrder = (t : NodeTable) (H : List Entry) (n m : ℕ) → Stands t H → is_listed H n ≡ true → is_listed H m ≡ true → nat_lt (last_turn t n) (last_turn t m) ≡ nat_lt (turned H n) (turned H m)

-- among the nodes that the table knows are the listed ones, in the order of their numbers
abbrev pub NodesInOrder : Type 0
NodesInOrder = (t : NodeTable) (H : List Entry) (p : ℕ → Bool) → Stands t H → ((n : ℕ) → p n ≡ true → is_listed H n ≡ true) → filter p (known t) ≡ filter p (nodes H)
