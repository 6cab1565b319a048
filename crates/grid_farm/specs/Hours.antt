-- The last hour, minute by minute.
use Rattle.std.specs.Prelude.{ℕ, ◌-◌, ◌/◌, max, Bool, nat_eq, nat_lt, List, [], ◌∷◌, ◌++◌, filter, unwrap_or, if◌then◌else◌}
use Rattle.grid_types.specs.declared.entry.Change.{Change}
use Rattle.grid_types.specs.History.{moment_of}
use Rattle.grid_farm.specs.declared.rows.MinuteRow.{MinuteRow}
use Rattle.grid_farm.specs.Counts.{plus}

-- the greatest moment so far
abbrev pub clock_after : ℕ → Change → ℕ
clock_after at change = max (unwrap_or (moment_of change) 0) at

-- the number of a moment's minute
abbrev pub minute_of : ℕ → ℕ
minute_of at = at / 60_000

-- the minute of the last entry, and those before it within an hour in which something happened, the oldest first
pub record Hour : Type 0 where
  pub last : MinuteRow
  pub earlier : List MinuteRow

-- the minute lies less than an hour before this one
abbrev pub is_within_hour : ℕ → MinuteRow → Bool
is_within_hour minute row = nat_lt (minute - row.minute) 60

-- the same minute, with one session more where one was created
abbrev pub row_with : MinuteRow → ℕ → ℕ → MinuteRow
row_with row created unsettled = record { minute = row.minute; created = plus row.created created; unsettled = unsettled }

-- the hour after an entry of a minute in which so many sessions were created, behind which so many requests are not settled
abbrev pub hour_after : Hour → ℕ → ℕ → ℕ → Hour
hour_after hour minute created unsettled =
    if nat_eq hour.last.minute minute
    then record { last = row_with hour.last created unsettled; earlier = hour.earlier }
    else record {
      last = record { minute = minute; created = created; unsettled = unsettled };
      earlier = filter (is_within_hour minute) (hour.earlier ++ hour.last ∷ []);
    }

-- nothing happened yet
abbrev pub no_hour : Hour
no_hour = record { last = record { minute = 0; created = 0; unsettled = 0 }; earlier = [] }
