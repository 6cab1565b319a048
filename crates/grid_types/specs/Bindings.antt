-- What a history says of a binding: a session that was bound for a request.
use Rattle.std.specs.Prelude.{ℕ, Bool, nat_eq, List, Option, None, Some, option_map}
use Rattle.grid_types.specs.declared.entry.Entry.{Entry}
use Rattle.grid_types.specs.declared.entry.Change.{Change}
use Rattle.grid_types.specs.declared.entry.Change.TheVariants as change
use Rattle.grid_types.specs.declared.names.SlotId.{SlotId}
use Rattle.grid_types.specs.Lists.{kept}
use Rattle.grid_types.specs.History.{last_told, all_told}
use Rattle.grid_types.specs.Nodes.{address_of}

-- where a session runs: its slot, its node's address and its binding
pub record Running : Type 0 where
  pub session : List ℕ
  pub slot : SlotId
  pub address : List ℕ
  pub binding : ℕ

-- where a Bound after the history makes its session run
abbrev pub running_told : List Entry → Change → Option Running
running_told history (change.Bound request slot session capabilities at) =
    Some (record {
      session = session;
      slot = slot;
      address = address_of history slot.node;
      binding = request;
    })
running_told history other = None

-- the number of a binding that is made
abbrev pub binding_told : Change → Option ℕ
binding_told (change.Bound request slot session capabilities at) = Some request
binding_told other = None

-- the bindings that were made, in order
abbrev pub bindings : List Entry → List ℕ
bindings = all_told binding_told

-- it runs by this binding
abbrev pub is_of_binding : ℕ → Running → Bool
is_of_binding binding running = nat_eq running.binding binding

-- where a binding's Bound makes its session run
abbrev pub bound_of : List Entry → ℕ → Option Running
bound_of history binding =
    last_told (λ before entry. kept (is_of_binding binding) (running_told before entry.change))
    history

-- the slot that a binding's Bound names
abbrev pub bound_slot : List Entry → ℕ → Option SlotId
bound_slot history binding = option_map (λ running. running.slot) (bound_of history binding)
