-- What is known of a start, and of its node and request around a bind.
use Rattle.std.specs.Prelude.{◌≡◌, ℕ, List, Option}
use Rattle.grid_types.specs.declared.config.HubConfig.{HubConfig}
use Rattle.grid_types.specs.declared.entry.Entry.{Entry}
use Rattle.grid_types.specs.declared.capabilities.Cap.{Cap}
use Rattle.grid_types.specs.Nodes.{is_base_up}
use Rattle.grid_types.specs.Requests.{is_settled}
use Rattle.grid_types.specs.Tokens.{Reservation}
use Rattle.grid_types.specs.Calls.{Call, Reply}
use Rattle.hub_core.specs.CoreStands.{later}
use Rattle.hub_tellers.specs.declared.starts.Start.{Start}
use Rattle.hub_tellers.specs.declared.starts.Standing.{Standing}

-- the start is that of the reservation
pub record IsOf (start : Start) (reservation : Reservation) : Type 0 where
  pub same_request : reservation.request ≡ start.request
  pub same_slot : reservation.slot ≡ start.slot

-- the node stood so before the bind, and the node and the request stand so after it, in the history
-- that the reply tells
pub record StoodSo (caller : ℕ) (reservation : Reservation) (session : List ℕ)
    (capabilities : List Cap) (standing : Standing) (reply : Option Reply) (config : HubConfig)
    (history : List Entry) (at : ℕ) : Type 0 where
  pub before : standing.was_up ≡ is_base_up history reservation.slot.node
  pub after : standing.is_up ≡ is_base_up
      (later config history caller (Call.bind reservation session capabilities) at reply)
      reservation.slot.node
  pub settled : standing.is_settled ≡ is_settled
      (later config history caller (Call.bind reservation session capabilities) at reply)
      reservation.request

abbrev pub Stood :
    ℕ → Reservation → List ℕ → List Cap → Standing → Option Reply → HubConfig → List Entry →
    ℕ → Type 0
Stood caller reservation session capabilities standing reply config history at =
    StoodSo caller reservation session capabilities standing reply config history at
