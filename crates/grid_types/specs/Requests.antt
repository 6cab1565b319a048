-- What a history says of a request.
use Rattle.std.specs.Prelude.{ℕ, Bool, true, false, ◌&&◌, nat_eq, List, [], Option, None, Some, unwrap_or, is_some, option_map, filter}
use Rattle.std.specs.List.{list_any, slice_get}
use Rattle.grid_types.specs.declared.entry.Entry.{Entry}
use Rattle.grid_types.specs.declared.entry.Change.{Change}
use Rattle.grid_types.specs.declared.entry.Change.TheVariants as change
use Rattle.grid_types.specs.declared.entry.Outcome.{Outcome}
use Rattle.grid_types.specs.declared.entry.Outcome.TheVariants as outcome
use Rattle.grid_types.specs.declared.capabilities.Cap.{Cap}
use Rattle.grid_types.specs.Lists.{when, total}
use Rattle.grid_types.specs.Capabilities.{request_bytes}
use Rattle.grid_types.specs.History.{last_told, first_told, requests}
use Rattle.grid_types.specs.Nodes.{address_of}

-- where a request stands
pub data Place : Type 0 where
  unknown : Place
  waiting : Place
  held : Place
  settled : (outcome : Outcome) → Place
  taken : Place

-- what was asked for, until when and by whom
pub record Asked : Type 0 where
  pub choices : List (List Cap)
  pub deadline : ℕ
  pub caller : ℕ

-- what a change that queues the request says
abbrev pub asked_told : ℕ → ℕ → Change → Option Asked
asked_told request caller (change.Queued named choices deadline at) =
    when (nat_eq named request)
    (record { choices = choices; deadline = deadline.0; caller = caller })
asked_told request caller other = None

-- what a request's Queued says
abbrev pub asked_of : List Entry → ℕ → Option Asked
asked_of history request =
    last_told (λ _ entry. asked_told request entry.caller entry.change) history

-- the choices of a request, none where it was not queued
abbrev pub choices_of : List Entry → ℕ → List (List Cap)
choices_of history request =
    unwrap_or (option_map (λ asked. asked.choices) (asked_of history request)) []

-- the deadline of a request in milliseconds, 0 where it was not queued
abbrev pub deadline_of : List Entry → ℕ → ℕ
deadline_of history request =
    unwrap_or (option_map (λ asked. asked.deadline) (asked_of history request)) 0

-- a request's choice of this number, from 0
abbrev pub choice_of : List Entry → ℕ → ℕ → List Cap
choice_of history request choice = unwrap_or (slice_get (choices_of history request) choice) []

-- the outcome that a change after the history settles the request with
abbrev pub outcome_told : ℕ → List Entry → Change → Option Outcome
outcome_told request history (change.Bound named slot session capabilities at) =
    when (nat_eq named request)
    (outcome.Created session capabilities slot (address_of history slot.node) named)
outcome_told request history (change.Failed named slot reason orphan last at) =
    when (nat_eq named request && last) (outcome.StartFailed reason)
outcome_told request history (change.TimedOut named at) =
    when (nat_eq named request) (outcome.TimedOut (record { 0 = deadline_of history request }))
outcome_told request history (change.Cleared named at) = when (nat_eq named request) outcome.Cleared
outcome_told request history other = None

-- the outcome of a request, by its first settling entry
abbrev pub outcome_of : List Entry → ℕ → Option Outcome
outcome_of history request =
    first_told (λ before entry. outcome_told request before entry.change) history

-- some entry settled the request
abbrev pub is_settled : List Entry → ℕ → Bool
is_settled history request = is_some (outcome_of history request)

-- the change hands the request's outcome out
abbrev pub is_taken_by : ℕ → Change → Bool
is_taken_by request (change.Taken named at) = nat_eq named request
is_taken_by request other = false

-- the outcome was handed out
abbrev pub is_taken : List Entry → ℕ → Bool
is_taken history request = list_any (λ entry. is_taken_by request entry.change) history

-- a reservation holds the request, and a failed start lets it go
abbrev pub held_told : ℕ → Change → Option Bool
held_told request (change.Reserved named slot choice at) = when (nat_eq named request) true
held_told request (change.Failed named slot reason orphan last at) =
    when (nat_eq named request) false
held_told request other = None

-- a reservation of the request has no failed start of it behind it
abbrev pub is_reserved : List Entry → ℕ → Bool
is_reserved history request =
    unwrap_or (last_told (λ _ entry. held_told request entry.change) history) false

-- taken, else settled, else held, else waiting, else unknown
abbrev pub place_by : Bool → Option Outcome → Bool → Bool → Place
place_by true result reserved asked = taken
place_by false (Some result) reserved asked = settled result
place_by false None true asked = held
place_by false None false true = waiting
place_by false None false false = unknown

-- where a request stands in a history
abbrev pub place : List Entry → ℕ → Place
place history request =
    place_by (is_taken history request) (outcome_of history request) (is_reserved history request)
    (is_some (asked_of history request))

-- it is Waiting
abbrev pub is_waiting : Place → Bool
is_waiting waiting = true
is_waiting other = false

-- it is Held
abbrev pub is_held : Place → Bool
is_held held = true
is_held other = false

-- it is Waiting or Held
abbrev pub is_unsettled : Place → Bool
is_unsettled waiting = true
is_unsettled held = true
is_unsettled other = false

-- the change is a failed start of the request on the node
abbrev pub barred_told : ℕ → ℕ → Change → Bool
barred_told request node (change.Failed named slot reason orphan last at) =
    nat_eq named request && nat_eq slot.node node
barred_told request node other = false

-- a start of the request failed on the node
abbrev pub is_barred : List Entry → ℕ → ℕ → Bool
is_barred history request node = list_any (λ entry. barred_told request node entry.change) history

-- the requests that are Waiting or Held, in order
abbrev pub unsettled : List Entry → List ℕ
unsettled history = filter (λ request. is_unsettled (place history request)) (requests history)

-- the requests that are Waiting, in order
abbrev pub waiting_requests : List Entry → List ℕ
waiting_requests history = filter (λ request. is_waiting (place history request)) (requests history)

-- the bytes of a request
abbrev pub bytes_of : List Entry → ℕ → ℕ
bytes_of history request = request_bytes (choices_of history request)

-- the bytes of all requests that are not settled
abbrev pub unsettled_bytes : List Entry → ℕ
unsettled_bytes history = total (bytes_of history) (unsettled history)
