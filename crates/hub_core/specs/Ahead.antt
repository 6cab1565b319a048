-- What calls will do to the published map, told ahead.
use Rattle.std.specs.Prelude.{◌≡◌, ℕ, Bool, true, false, List, [], ◌∷◌, ◌++◌, map, filter_map, Option, None, Some}
use Rattle.grid_types.specs.declared.config.HubConfig.{HubConfig}
use Rattle.grid_types.specs.declared.capabilities.Cap.{Cap}
use Rattle.grid_types.specs.declared.entry.Entry.{Entry}
use Rattle.grid_types.specs.Tokens.{Reservation}
use Rattle.grid_types.specs.Calls.{Call, Reply}
use Rattle.grid_types.specs.HubAnswers.{hub, after_call}
use Rattle.grid_types.specs.LookupMap.{Item, put, removal, session_in, sessions_on, published, changes}
use Rattle.reservation.specs.declared.slot_use.SlotUse.{SlotUse}
use Rattle.reservation.specs.Table.{holder_of}
use Rattle.hub_tables.specs.Tables as of_tables
use Rattle.hub_core.specs.declared.hub.HubCore.{HubCore}
use Rattle.hub_core.specs.declared.answers.Readied.{Readied}
use Rattle.hub_core.specs.declared.answers.Readied.TheVariants as readied

-- a call publishes these items, in order
abbrev pub Publishes : HubConfig → List Entry → ℕ → Call → ℕ → List Item → Type 0
Publishes c H caller call at items = changes (after_call c H caller call at) ≡ published (changes H) items

-- there is room to bind the session
abbrev pub HasRoomFor : HubCore → List ℕ → Type 0
HasRoomFor core s = of_tables.HasRoomFor core.tables s

abbrev pub is_bound : Reply → Bool
is_bound (Reply.bound b) = true
is_bound reply = false

-- what is put into the map where a session is bound
abbrev pub put_of : Reservation → List ℕ → Item
put_of t x = put (record { session = x; slot = t.slot; address = t.address; binding = t.request })

-- the session will be bound, and is put into the map then
pub record BindsThere (c : HubConfig) (H : List Entry) (caller : ℕ) (t : Reservation) (x : List ℕ) (caps : List Cap) (at : ℕ) : Type 0 where
  pub binds : is_bound (hub c H caller (Call.bind t x caps) at).reply ≡ true
  pub puts : Publishes c H caller (Call.bind t x caps) at (put_of t x ∷ [])

-- it will not be, and the map stays
pub record RefusesThere (c : HubConfig) (H : List Entry) (caller : ℕ) (t : Reservation) (x : List ℕ) (caps : List Cap) (at : ℕ) : Type 0 where
  pub refuses : is_bound (hub c H caller (Call.bind t x caps) at).reply ≡ false
  pub stays : Publishes c H caller (Call.bind t x caps) at []

abbrev pub ReadiedTells : HubConfig → List Entry → ℕ → Reservation → List ℕ → List Cap → ℕ → Readied → Type 0
ReadiedTells c H caller t x caps at readied.Binds = BindsThere c H caller t x caps at
ReadiedTells c H caller t x caps at readied.Refuses = RefusesThere c H caller t x caps at
ReadiedTells c H caller t x caps at readied.Memory = BindsThere c H caller t x caps at

abbrev pub RoomIfBinds : HubCore → List ℕ → Readied → Type 0
RoomIfBinds core x readied.Binds = HasRoomFor core x
RoomIfBinds core x r = Unit {0}

-- the removal of a session, where there is one
abbrev pub removal_in : Option (List ℕ) → List Item
removal_in None = []
removal_in (Some x) = removal x ∷ []

abbrev pub ends_session : Bool → List ℕ → Option (List ℕ)
ends_session true x = Some x
ends_session false x = None

-- the removals of sessions, in order
abbrev pub removals_of : List (List ℕ) → List Item
removals_of sessions = map (λ x. removal x) sessions

-- the sessions on nodes, node after node
abbrev pub all_on : List Entry → List ℕ → List (List ℕ)
all_on H [] = []
all_on H (n ∷ ns) = sessions_on H n ++ all_on H ns

-- the sessions of the busy slots
abbrev pub busy_in : List SlotUse → List (List ℕ)
busy_in uses = filter_map (λ u. session_in (holder_of u)) uses

-- no such call binds a session, ends one, or lets a node lapse
abbrev pub is_quiet : Call → Bool
is_quiet (Call.bind t x caps) = false
is_quiet (Call.end s b) = false
is_quiet Call.sweep = false
is_quiet Call.expire = false
is_quiet call = true

abbrev pub QuietCallsPublishNothing : Type 0
QuietCallsPublishNothing = (c : HubConfig) (H : List Entry) (caller : ℕ) (call : Call) (at : ℕ) → is_quiet call ≡ true → Publishes c H caller call at []
