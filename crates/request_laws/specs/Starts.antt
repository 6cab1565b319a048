-- Which nodes a request may still be started on.
use Rattle.std.specs.Prelude.{ℕ, Bool, false, not, ◌&&◌, nat_eq, List, unwrap_or}
use Rattle.std.specs.List.{list_any}
use Rattle.grid_types.specs.declared.entry.Entry.{Entry}
use Rattle.grid_types.specs.declared.entry.Change.{Change}
use Rattle.grid_types.specs.declared.entry.Change.TheVariants as change
use Rattle.grid_types.specs.Lists.{how_many}
use Rattle.grid_types.specs.History.{last_told, nodes, request_told}
use Rattle.grid_types.specs.Nodes.{is_registered}

-- the change reserves a slot of the node for the request
abbrev pub tried_told : ℕ → ℕ → Change → Bool
tried_told r n (change.Reserved q s k at) = nat_eq q r && nat_eq s.node n
tried_told r n c = false

-- a slot of the node was reserved for the request
abbrev pub is_tried : List Entry → ℕ → ℕ → Bool
is_tried H r n = list_any (λ e. tried_told r n e.change) H

-- the node is registered, and no slot of it was reserved for the request
abbrev pub is_untried : List Entry → ℕ → ℕ → Bool
is_untried H r n = is_registered H n && not (is_tried H r n)

-- how many nodes the request may still be started on
abbrev pub starts_left : List Entry → ℕ → ℕ
starts_left H r = how_many (is_untried H r) (nodes H)

-- how many nodes are registered
abbrev pub registered_count : List Entry → ℕ
registered_count H = how_many (is_registered H) (nodes H)

-- the request that was queued last, 0 where there is none
abbrev pub newest_request : List Entry → ℕ
newest_request H = unwrap_or (last_told (λ _ e. request_told e.change) H) 0
