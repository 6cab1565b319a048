-- How long a request may wait: as long as its choices ask, or else as long as the hub lets each
-- wait.
use Rattle.std.specs.Prelude.{ℕ, Bool, if◌then◌else◌, ◌&&◌, nat_le, bytes_eq, List, Option, None, unwrap_or}
use Rattle.std.specs.Char.{is_ascii_digit}
use Rattle.std.specs.List.{list_all}
use Rattle.std.specs.Str.Parse.{digits_value}
use Rattle.grid_types.specs.declared.capabilities.Cap.{Cap}
use Rattle.grid_types.specs.declared.capabilities.CapValue.{CapValue}
use Rattle.grid_types.specs.declared.capabilities.CapValue.TheVariants as value
use Rattle.grid_types.specs.declared.config.HubConfig.{HubConfig}
use Rattle.grid_types.specs.declared.limits.TheConstants.{LEAST_QUEUE_TIME_MS, MOST_QUEUE_TIME_MS}
use Rattle.grid_types.specs.declared.queue_time.TheConstants.{QUEUE_TIME_NAME}
use Rattle.grid_types.specs.Lists.{when, first_some}

-- digits alone, of a number of milliseconds that a request may ask for
abbrev pub is_queue_time : List ℕ → Bool
is_queue_time text =
    list_all is_ascii_digit text
    && nat_le LEAST_QUEUE_TIME_MS (digits_value 10 text)
    && nat_le (digits_value 10 text) MOST_QUEUE_TIME_MS

-- the time that a value asks for; a value of another form asks for none
abbrev pub queue_time_of : CapValue → Option ℕ
queue_time_of (value.Raw text) = when (is_queue_time text) (digits_value 10 text)
queue_time_of other = None

-- the time that a member asks for
abbrev pub asked_time : Cap → Option ℕ
asked_time member =
    if bytes_eq member.name QUEUE_TIME_NAME.now then queue_time_of member.value else None

-- the time that the first list which asks for one asks for, or else the hub's
abbrev pub queue_time : HubConfig → List (List Cap) → ℕ
queue_time config choices = unwrap_or (first_some (first_some asked_time) choices) config.timeout_ms
