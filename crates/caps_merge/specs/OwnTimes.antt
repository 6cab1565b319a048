-- How long a request may wait, as the lists that a body gives ask for it.
use Rattle.std.specs.Prelude.{◌≡◌, ℕ, Bool, true, ◌||◌, not, List, Ok, is_some, bytes_eq}
use Rattle.std.specs.List.{list_all}
use Rattle.grid_types.specs.declared.capabilities.Cap.{Cap}
use Rattle.grid_types.specs.declared.queue_time.TheConstants.{QUEUE_TIME_NAME}
use Rattle.grid_types.specs.QueueTime.{asked_time}
use Rattle.caps_merge.specs.Merging.{BodyGives}

-- a member of the name asks for a time
abbrev pub asks_where_named : Cap → Bool
asks_where_named c = not (bytes_eq c.name QUEUE_TIME_NAME.now) || is_some (asked_time c)

-- each such member of each list
abbrev pub all_ask : List (List Cap) → Bool
all_ask lists = list_all (list_all asks_where_named) lists

-- a time that a body asks for is never passed over
abbrev pub OwnTimesAreRead : Type 0
OwnTimesAreRead =
    (body : List ℕ) (lists : List (List Cap)) → BodyGives body (Ok lists) → all_ask lists ≡ true
