-- What spending the open tokens promises.
use Rattle.std.specs.Prelude.{◌≡◌, ◌<◌, ℕ, Bool, true, false, nat_eq, List, Option, None, IsSome, Result, Ok, Err}
use Rattle.std.specs.Ordering.{nat_cmp}
use Rattle.std.specs.BTreeMap.{get}
use Rattle.grid_types.specs.declared.entry.Entry.{Entry}
use Rattle.grid_types.specs.declared.names.SlotId.{SlotId}
use Rattle.grid_types.specs.Slots.{slot_eq}
use Rattle.grid_types.specs.Tokens.{Closing, is_good_ticket, is_good_reservation, is_good_closing}
use Rattle.grid_outside.specs.declared.exchange.Ask.{Ask}
use Rattle.grid_outside.specs.Exchanges.{Came}
use Rattle.hub_core.specs.HubView.{past}
use Rattle.node_client.specs.Asks.{quit_ask}
use Rattle.row_keeper.specs.Disks.{Disk}
use Rattle.grid_keeper.specs.Holds.{Holds, HoldsAll}
use Rattle.grid_keeper.specs.Keeping.{IsOpen}
use Rattle.grid_keeper.specs.declared.left.Left.{Left}
use Rattle.grid_keeper.specs.declared.kept_hub.KeptHub.{KeptHub}
use Rattle.grid_keeper.specs.declared.kept_hub.KeptFault.{KeptFault}

-- no reservation and no closing is open, so that no slot is held or closing for the caller
pub record NoneHeld (H : List Entry) : Type 0 where
  pub reservations : (r : ℕ) (s : SlotId) → is_good_reservation H 0 r s ≡ false
  pub closings : (s : SlotId) → s.index < 65_536 → is_good_closing H 0 s ≡ false

-- no reservation is there, no closing is there
abbrev pub LacksReservations : Left → Type 0
LacksReservations left = (r : ℕ) → get nat_cmp left.reservations r ≡ None

abbrev pub LacksClosings : Left → Type 0
LacksClosings left = (p : ℕ) → get nat_cmp left.closings p ≡ None

-- there are tickets alone
pub record IsBare (left : Left) : Type 0 where
  pub reservations : LacksReservations left
  pub closings : LacksClosings left

-- no ticket is open
abbrev pub NoTicket : List Entry → Type 0
NoTicket H = (r : ℕ) → is_good_ticket H 0 r ≡ false

module _ {K : Type 0} (disk : K → Option Disk) where
  -- the hub takes calls, with just its open tokens beside it
  pub record IsReady (hub : KeptHub K) (left : Left) : Type 0 where
    pub open_now : IsOpen disk hub
    pub all : HoldsAll (past hub.hub) left

  -- one reservation was spent, or there was none
  abbrev pub Failed : KeptHub K → Left → Result Bool KeptFault → Type 0
  Failed hub left (Ok true) = IsReady hub left
  Failed hub left (Ok false) = IsReady hub left × LacksReservations left
  Failed hub left (Err fault) = hub.is_open ≡ false

  -- one closing was spent, or there was none; there is no reservation
  abbrev pub Freed : KeptHub K → Left → Result Bool KeptFault → Type 0
  Freed hub left (Ok true) = IsReady hub left × LacksReservations left
  Freed hub left (Ok false) = IsReady hub left × LacksReservations left × LacksClosings left
  Freed hub left (Err fault) = hub.is_open ≡ false

  -- the hub takes calls, nothing is held, and just the open tickets are there
  pub record IsIdle (hub : KeptHub K) (left : Left) : Type 0 where
    pub open_now : IsOpen disk hub
    pub none : NoneHeld (past hub.hub)
    pub holds : Holds (past hub.hub) left
    pub bare : IsBare left
    pub tickets : (r : ℕ) → is_good_ticket (past hub.hub) 0 r ≡ true →
        IsSome (get nat_cmp left.tickets r)

  -- one ticket was spent, or none is open
  abbrev pub Took : KeptHub K → Left → Result Bool KeptFault → Type 0
  Took hub left (Ok true) = IsIdle hub left
  Took hub left (Ok false) = IsOpen disk hub × NoneHeld (past hub.hub) × NoTicket (past hub.hub)
  Took hub left (Err fault) = hub.is_open ≡ false

-- just this closing is open
pub record OnlyClosing (H : List Entry) (t : Closing) : Type 0 where
  pub reservations : (r : ℕ) (s : SlotId) → is_good_reservation H 0 r s ≡ false
  pub closings : (s : SlotId) → s.index < 65_536 → is_good_closing H 0 s ≡ true →
      slot_eq t.slot s ≡ true

-- tickets that were good stay good
abbrev pub AllStay : List Entry → List Entry → Type 0
AllStay H later = (left : Left) → IsBare left → Holds H left → Holds later left

-- all but that of a request
abbrev pub OthersStay : ℕ → List Entry → List Entry → Type 0
OthersStay request H later =
    (left : Left) → IsBare left → get nat_cmp left.tickets request ≡ None → Holds H left →
    Holds later left

-- each ticket that is open was open
abbrev pub TicketsFrom : List Entry → List Entry → Type 0
TicketsFrom H later = (r : ℕ) → is_good_ticket later 0 r ≡ true → is_good_ticket H 0 r ≡ true

-- and is none of a request
abbrev pub TicketsBut : ℕ → List Entry → List Entry → Type 0
TicketsBut request H later =
    (r : ℕ) → is_good_ticket later 0 r ≡ true →
    (is_good_ticket H 0 r ≡ true) × (nat_eq request r ≡ false)

-- From the one state of the nodes to the other they were asked nothing but to end sessions, each for a closing whose session is
-- to be ended.
pub data OnlyQuits {N : Type 0} (gives : N → List ℕ → Ask → Came → N → Type 0) : N → N → Type 0 where
  not_asked : (nodes : N) → OnlyQuits gives nodes nodes
  asked_one : (old mid new : N) (t : Closing) (came : Came) → OnlyQuits gives old mid → t.quit ≡ true →
      gives mid t.address (quit_ask t.session) came new → OnlyQuits gives old new

-- nothing else was asked behind what was asked before
abbrev pub QuitsOn : {N : Type 0} → (N → List ℕ → Ask → Came → N → Type 0) → N → N → Type 0
QuitsOn {N} gives old new = (first : N) → OnlyQuits gives first old → OnlyQuits gives first new
