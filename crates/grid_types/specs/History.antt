-- A hub's history: the list of its entries, the newest first. `entry ∷ history` is the history with
-- the entry after it, and what a history begins with is its end. The facts about a history are read
-- from the newest entry back.
use Rattle.std.specs.Prelude.{ℕ, ◌+◌, max, List, [], ◌∷◌, ◌++◌, length, reverse, Option, None, Some, unwrap_or, ◌≡◌}
use Rattle.grid_types.specs.declared.entry.Entry.{Entry}
use Rattle.grid_types.specs.declared.entry.Change.{Change}
use Rattle.grid_types.specs.declared.entry.Change.TheVariants as change
use Rattle.grid_types.specs.declared.config.HubConfig.{HubConfig}
use Rattle.grid_types.specs.Lists.{or_else, earlier, with_last}

-- a history begins with an older one, which lies at its end
abbrev pub BeginsWith : List Entry → List Entry → Type 0
BeginsWith history older = (newer : List Entry) × (newer ++ older ≡ history)

-- the history after these changes of one caller, made in this order
abbrev pub after : List Entry → ℕ → List Change → List Entry
after history caller [] = history
after history caller (first ∷ rest) =
    after (record { caller = caller; change = first } ∷ history) caller rest

-- the history of a journal, which has its entries in order, the oldest first
abbrev pub history_of : List Entry → List Entry
history_of journal = reverse journal

-- what the newest entry that tells something tells; each is read with the entries before it
abbrev pub last_told : {X : Type 0} → (List Entry → Entry → Option X) → List Entry → Option X
last_told told [] = None
last_told told (entry ∷ history) = or_else (told history entry) (last_told told history)

-- what the oldest entry that tells something tells; each is read with the entries before it
abbrev pub first_told : {X : Type 0} → (List Entry → Entry → Option X) → List Entry → Option X
first_told told [] = None
first_told told (entry ∷ history) = earlier (first_told told history) (told history entry)

-- what the changes tell, the oldest first
abbrev pub all_told : {X : Type 0} → (Change → Option X) → List Entry → List X
all_told told [] = []
all_told told (entry ∷ history) = with_last (all_told told history) (told entry.change)

-- a change's moment; `Freed` has none
abbrev pub moment_of : Change → Option ℕ
moment_of (change.Registered node registration at) = Some at.0
moment_of (change.Beaten node at) = Some at.0
moment_of (change.Draining node at) = Some at.0
moment_of (change.Removed node at) = Some at.0
moment_of (change.Lapsed node at) = Some at.0
moment_of (change.Queued request choices deadline at) = Some at.0
moment_of (change.Reserved request slot choice at) = Some at.0
moment_of (change.Bound request slot session capabilities at) = Some at.0
moment_of (change.Failed request slot reason orphan last at) = Some at.0
moment_of (change.TimedOut request at) = Some at.0
moment_of (change.Cleared request at) = Some at.0
moment_of (change.Taken request at) = Some at.0
moment_of (change.Touched binding at) = Some at.0
moment_of (change.Ended binding ending at) = Some at.0
moment_of (change.Freed slot) = None
moment_of (change.Suspected node at) = Some at.0

-- the greatest moment so far, 0 where there is none
abbrev pub clock : List Entry → ℕ
clock [] = 0
clock (entry ∷ history) = max (unwrap_or (moment_of entry.change) 0) (clock history)

-- the number of a registration
abbrev pub node_told : Change → Option ℕ
node_told (change.Registered node registration at) = Some node
node_told other = None

-- the nodes that registered, in order
abbrev pub nodes : List Entry → List ℕ
nodes = all_told node_told

-- the number of a request that is queued
abbrev pub request_told : Change → Option ℕ
request_told (change.Queued request choices deadline at) = Some request
request_told other = None

-- the requests that were queued, in order
abbrev pub requests : List Entry → List ℕ
requests = all_told request_told

-- the next node's number
abbrev pub next_node : HubConfig → List Entry → ℕ
next_node config history = config.first_node + length (nodes history)

-- the next request's number
abbrev pub next_request : HubConfig → List Entry → ℕ
next_request config history = config.first_request + length (requests history)
