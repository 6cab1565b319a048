-- The assignment that is made next: of all that fit, the least.
use Rattle.std.specs.Prelude.{ℕ, ◌*◌, Bool, true, false, if◌then◌else◌, nat_lt, List, map, length, Option, flat_map, filter}
use Rattle.grid_types.specs.declared.entry.Entry.{Entry}
use Rattle.grid_types.specs.declared.names.SlotId.{SlotId}
use Rattle.grid_types.specs.Lists.{least, numbers_from}
use Rattle.grid_types.specs.History.{nodes, requests}
use Rattle.grid_types.specs.Nodes.{turned, max_of}
use Rattle.grid_types.specs.Slots.{load, slots_of}
use Rattle.grid_types.specs.Requests.{choices_of}
use Rattle.grid_types.specs.Fit.{fits}

-- a slot for a choice of a request
pub record Assignment : Type 0 where
  pub request : ℕ
  pub choice : ℕ
  pub slot : SlotId

-- the slots of all nodes, by node and number
abbrev pub all_slots : List Entry → List SlotId
all_slots history = flat_map (slots_of history) (nodes history)

-- each choice of one request with each slot
abbrev pub assignments_of : List Entry → ℕ → List Assignment
assignments_of history request =
    flat_map
    (λ choice.
    map (λ slot. record { request = request; choice = choice; slot = slot }) (all_slots history))
    (numbers_from 0 (length (choices_of history request)))

-- every request with every choice of it and every slot
abbrev pub all_assignments : List Entry → List Assignment
all_assignments history = flat_map (assignments_of history) (requests history)

-- the first is less than the second, or they are equal and the rest decides
abbrev pub less_or : ℕ → ℕ → Bool → Bool
less_or first second rest =
    if nat_lt first second then true
    else if nat_lt second first then false
    else rest

-- what the order of slots reads of one: its node's load, greatest number of sessions and last
-- reservation, its node's number, and its index there
pub record Rank : Type 0 where
  pub load : ℕ
  pub most : ℕ
  pub turn : ℕ
  pub node : ℕ
  pub index : ℕ

-- the order of two slots: least load over the greatest number of sessions, by cross products; then
-- the node whose last reservation is longest ago; then the least node; then the least index
abbrev pub rank_before : Rank → Rank → Bool
rank_before first second =
    less_or (first.load * second.most) (second.load * first.most)
    (less_or first.turn second.turn
    (less_or first.node second.node (nat_lt first.index second.index)))

abbrev pub rank_of : List Entry → SlotId → Rank
rank_of history slot = record {
  load = load history slot.node;
  most = max_of history slot.node;
  turn = turned history slot.node;
  node = slot.node;
  index = slot.index;
}

abbrev pub slot_before : List Entry → SlotId → SlotId → Bool
slot_before history first second = rank_before (rank_of history first) (rank_of history second)

-- the order of two assignments: the least request, then its least choice, then the slots' order
abbrev pub assignment_before : List Entry → Assignment → Assignment → Bool
assignment_before history first second =
    less_or first.request second.request
    (less_or first.choice second.choice (slot_before history first.slot second.slot))

-- the least assignment that fits at the moment
unfoldable pub chosen : List Entry → ℕ → Option Assignment
chosen history moment =
    least (assignment_before history)
    (filter (λ assignment. fits history assignment.request assignment.choice assignment.slot moment)
    (all_assignments history))
