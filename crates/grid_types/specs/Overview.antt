-- What the hub shows of itself.
use Rattle.std.specs.Prelude.{ℕ, Bool, ◌&&◌, nat_lt, List, [], map, length, None, unwrap_or}
use Rattle.std.specs.List.{list_any}
use Rattle.grid_types.specs.declared.entry.Entry.{Entry}
use Rattle.grid_types.specs.declared.capabilities.Registration.{Registration}
use Rattle.grid_types.specs.declared.view.View.{View}
use Rattle.grid_types.specs.declared.view.NodeView.{NodeView}
use Rattle.grid_types.specs.declared.view.WaitView.{WaitView}
use Rattle.grid_types.specs.declared.view.SlotState.{SlotState}
use Rattle.grid_types.specs.declared.view.SlotState.TheVariants as state
use Rattle.grid_types.specs.declared.view.Standing.TheVariants as standing
use Rattle.grid_types.specs.History.{nodes}
use Rattle.grid_types.specs.Nodes.{registration_of, standing_of, is_up, max_of}
use Rattle.grid_types.specs.Slots.{Holder, free, held, busy, closing, holder, is_free, slots_of, load, listed}
use Rattle.grid_types.specs.Requests.{waiting_requests, deadline_of, choices_of, bytes_of}

-- a slot's state, which does not show for whom it is held
abbrev pub state_of : Holder → SlotState
state_of free = state.Free
state_of (held request) = state.Held
state_of (busy session) = state.Busy session
state_of closing = state.Closing

-- what stands for the registration of a node that never registered; no view speaks of one
abbrev pub no_registration : Registration
no_registration = record {
  name = [];
  address = [];
  max_sessions = 0;
  groups = [];
  drain_after = None;
}

-- a node with its standing and the state of each slot
abbrev pub node_view : List Entry → ℕ → NodeView
node_view history node = record {
  node = node;
  registration = unwrap_or (registration_of history node) no_registration;
  standing = unwrap_or (standing_of history node) standing.Gone;
  slots = map (λ slot. state_of (holder history slot)) (slots_of history node);
}

-- a waiting request with its deadline and its size
abbrev pub wait_view : List Entry → ℕ → WaitView
wait_view history request = record {
  request = request;
  deadline = record { 0 = deadline_of history request };
  choices = length (choices_of history request);
  bytes = bytes_of history request;
}

-- the node is Up and below its most sessions, and has a free slot
abbrev pub is_ready : List Entry → ℕ → Bool
is_ready history node =
    is_up history node
    && nat_lt (load history node) (max_of history node)
    && list_any (λ slot. is_free (holder history slot)) (slots_of history node)

-- whether some node is ready, the listed nodes and the waiting requests, both by number
unfoldable pub view_of : List Entry → View
view_of history = record {
  ready = list_any (is_ready history) (nodes history);
  nodes = map (node_view history) (listed history);
  waiting = map (wait_view history) (waiting_requests history);
}
