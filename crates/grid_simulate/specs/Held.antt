-- The tokens that a simulation keeps: all are good, and no two of them are one.
use Rattle.std.specs.Prelude.{◌≡◌, Bool, true, false, nat_eq, List, [], ◌∷◌}
use Rattle.grid_types.specs.declared.entry.Entry.{Entry}
use Rattle.grid_types.specs.Slots.{slot_eq}
use Rattle.grid_types.specs.Tokens.{Ticket, Reservation, ticket_of, reservation_of, is_good_ticket, is_good_reservation}
use Rattle.hub_core.specs.HubView.{past}
use Rattle.grid_simulate.specs.World.{simulated_config}
use Rattle.grid_simulate.specs.declared.simulation.Simulation.{Simulation}

-- each of them is so
abbrev pub Each : {X : Type 0} → (X → Type 0) → List X → Type 0
Each P [] = Unit {0}
Each P (x ∷ xs) = P x × Each P xs

-- no two of them are alike
abbrev pub Apart : {X : Type 0} → (X → X → Bool) → List X → Type 0
Apart alike [] = Unit {0}
Apart alike (x ∷ xs) = Each (λ y. alike x y ≡ false) xs × Apart alike xs

-- a token is good after H and tells what is so
abbrev pub IsTicket : List Entry → Ticket → Type 0
IsTicket H t = (is_good_ticket H 0 t.request ≡ true) × (t ≡ ticket_of H t.request)

abbrev pub IsReservation : List Entry → Reservation → Type 0
IsReservation H r =
    (is_good_reservation H 0 r.request r.slot ≡ true) × (r ≡ reservation_of H r.request r.slot)

abbrev pub same_request : Ticket → Ticket → Bool
same_request t u = nat_eq t.request u.request

abbrev pub same_slot : Reservation → Reservation → Bool
same_slot r s = slot_eq r.slot s.slot

pub record AreHeld (H : List Entry) (tickets : List Ticket)
    (reservations : List Reservation) : Type 0 where
  pub tickets_good : Each (IsTicket H) tickets
  pub tickets_apart : Apart same_request tickets
  pub reservations_good : Each (IsReservation H) reservations
  pub reservations_apart : Apart same_slot reservations

-- the hub is set up as a simulation's, and the tokens are good after its history
pub record IsSound (s : Simulation) : Type 0 where
  pub config_is : s.hub.config ≡ simulated_config
  pub held : AreHeld (past s.hub) s.tickets.items s.reservations.items
