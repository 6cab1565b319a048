-- What the steps of a settling do to a history.
use Rattle.std.specs.Prelude.{◌≡◌, ◌⊎◌, ℕ, ◌≤◌, Bool, true, false, if◌then◌else◌, List, ◌∷◌, Option, None, Some}
use Rattle.grid_types.specs.declared.config.HubConfig.{HubConfig}
use Rattle.grid_types.specs.declared.entry.Change.{Change}
use Rattle.grid_types.specs.declared.entry.Entry.{Entry}
use Rattle.grid_types.specs.declared.names.SlotId.{SlotId}
use Rattle.grid_types.specs.History.{clock, nodes, requests}
use Rattle.grid_types.specs.Permitted.{is_asker, permitted}
use Rattle.grid_types.specs.Requests.{Place, settled, asked_of, is_unsettled, place}
use Rattle.grid_types.specs.Slots.{Holder, free, closing, holder, is_closing, is_held_slot, owner}
use Rattle.grid_types.specs.Tables.{entry}
use Rattle.grid_types.specs.Told.{HasSlot}
use Rattle.session_queue.specs.Table.{is_gone}
use Rattle.grid_ledger.specs.Open.{NoRequest, NoSlot}
use Rattle.grid_opening.specs.declared.settling.SlotWork.{SlotWork}
use Rattle.grid_opening.specs.declared.settling.SlotWork.TheVariants as work
use Rattle.grid_opening.specs.declared.settling.RequestWork.{RequestWork}
use Rattle.grid_opening.specs.declared.settling.RequestWork.TheVariants as asked_work

-- the history with the caller's change after it, where that may follow
abbrev pub with_change : HubConfig → List Entry → ℕ → Change → List Entry
with_change config history caller change =
    if permitted config history caller change then entry caller change ∷ history else history

-- whatever the history
abbrev pub Always : List Entry → Type 0
Always history = Unit {0}

-- the caller has the slot for the request
abbrev pub IsHeldFor : ℕ → ℕ → SlotId → List Entry → Type 0
IsHeldFor caller request slot history = HasSlot history caller request slot

-- the slot is closing since an entry of the caller
pub record IsClosingOf (caller : ℕ) (slot : SlotId) (history : List Entry) : Type 0 where
  pub holder : holder history slot ≡ closing
  pub owner : owner history slot ≡ Some caller

-- no slot is held
abbrev pub NoHeld : List Entry → Type 0
NoHeld history = (slot : SlotId) → is_held_slot (holder history slot) ≡ false

-- a slot of this holder is in want of the work
abbrev pub wants : SlotWork → Holder → Bool
wants work.LetGo given = is_held_slot given
wants work.Free given = is_closing given

-- each slot, each of a node, and this one
abbrev pub EachSlot : SlotId → Type 0
EachSlot slot = Unit {0}

abbrev pub OnNode : ℕ → SlotId → Type 0
OnNode node slot = slot.node ≡ node

abbrev pub IsSlot : SlotId → SlotId → Type 0
IsSlot named slot = slot ≡ named

-- each request, and this one
abbrev pub EachRequest : ℕ → Type 0
EachRequest request = Unit {0}

abbrev pub IsRequest : ℕ → ℕ → Type 0
IsRequest named request = request ≡ named

-- nobody registered and nothing was queued, and no entry is later than the moment unless one was
pub record Passes (at : ℕ) (old new : List Entry) : Type 0 where
  pub in_time : clock old ≤ at → clock new ≤ at
  pub same_nodes : nodes new ≡ nodes old
  pub same_requests : requests new ≡ requests old

-- The work was done at these slots: none of them is in want of it. Each slot is as it was or free, and the requests stand as they
-- stood where slots were freed.
pub record Clears (which : SlotWork) (at : ℕ) (slots : SlotId → Type 0) (old new : List Entry) : Type 0 where
  pub passes : Passes at old new
  pub others : (slot : SlotId) → (holder new slot ≡ holder old slot) ⊎ (holder new slot ≡ free)
  pub places : which ≡ work.Free → (request : ℕ) → place new request ≡ place old request
  pub done : clock old ≤ at → (slot : SlotId) → slots slot → wants which (holder new slot) ≡ false

-- These requests were settled and their outcomes taken, given this of the history before. No slot is newly held, and what was
-- taken stays so.
pub record TakesGiven (at : ℕ) (given : List Entry → Type 0) (asked : ℕ → Type 0) (old new : List Entry) : Type 0 where
  pub passes : Passes at old new
  pub held : NoHeld old → NoHeld new
  pub gone : (request : ℕ) → is_gone (place old request) ≡ true → is_gone (place new request) ≡ true
  pub done : clock old ≤ at → given old → (request : ℕ) → asked request → is_gone (place new request) ≡ true

-- each slot and each request is as it was
pub record Stays (old new : List Entry) : Type 0 where
  pub holders : (slot : SlotId) → holder new slot ≡ holder old slot
  pub places : (request : ℕ) → place new request ≡ place old request

-- it has an outcome that nobody took
abbrev pub is_untaken : Place → Bool
is_untaken (settled outcome) = true
is_untaken other = false

-- the request's outcome is there, nobody took it, and the caller queued it
pub record IsUntakenOf (caller request : ℕ) (history : List Entry) : Type 0 where
  pub stands : is_untaken (place history request) ≡ true
  pub asker : is_asker history caller request ≡ true

-- who has the request's outcome to take, if anybody
abbrev pub TellsUntaken : ℕ → Option (ℕ × Bool) → List Entry → Type 0
TellsUntaken request None history = is_untaken (place history request) ≡ false
TellsUntaken request (Some found) history = IsUntakenOf found.0 request history

-- the request is not waiting or held
abbrev pub IsSettledOrGone : ℕ → List Entry → Type 0
IsSettledOrGone request history = is_unsettled (place history request) ≡ false

-- the request does not wait any more; no slot is newly held, and what was taken stays so
pub record ClearsOne (at request : ℕ) (old new : List Entry) : Type 0 where
  pub passes : Passes at old new
  pub held : NoHeld old → NoHeld new
  pub gone : (other : ℕ) → is_gone (place old other) ≡ true → is_gone (place new other) ≡ true
  pub settled : clock old ≤ at → NoHeld old → IsSettledOrGone request new

-- no slot is newly held, and the requests are as they were
pub record Ends (at : ℕ) (old new : List Entry) : Type 0 where
  pub passes : Passes at old new
  pub held : NoHeld old → NoHeld new
  pub places : (request : ℕ) → place new request ≡ place old request
  pub asked : (request : ℕ) → asked_of new request ≡ asked_of old request

-- what is done for these requests
abbrev pub Works : RequestWork → ℕ → (ℕ → Type 0) → List Entry → List Entry → Type 0
Works asked_work.Settle at asked old new = TakesGiven at NoHeld asked old new
Works asked_work.Touch at asked old new = Stays old new

-- where no entry was later than the moment, no slot is held now, and each request that was queued is taken
abbrev pub Settles : ℕ → List Entry → List Entry → Type 0
Settles at old new = clock old ≤ at → (clock new ≤ at) × NoHeld new × NoRequest new

-- no slot is held or closing and each request is taken, where none was held and each was taken
abbrev pub Refreshes : ℕ → List Entry → List Entry → Type 0
Refreshes at old new = clock old ≤ at → NoHeld old → NoRequest old → NoSlot new × NoRequest new

-- nothing is open any more
abbrev pub Closes : ℕ → List Entry → List Entry → Type 0
Closes at old new = clock old ≤ at → NoSlot new × NoRequest new
