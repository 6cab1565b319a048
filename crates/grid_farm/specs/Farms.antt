-- What is known of a farm after a history.
use Rattle.std.specs.Prelude.{ℕ, List, [], ◌∷◌, length, if◌then◌else◌}
use Rattle.grid_types.specs.declared.entry.Entry.{Entry}
use Rattle.grid_log.specs.Past.{Past, no_past, past_after}
use Rattle.grid_farm.specs.declared.counts.Counts.{Counts}
use Rattle.grid_farm.specs.declared.rows.UseRow.{UseRow}
use Rattle.grid_farm.specs.Counts.{counts_after, no_counts}
use Rattle.grid_farm.specs.Hours.{Hour, clock_after, hour_after, minute_of, no_hour}
use Rattle.grid_farm.specs.Kinds.{is_created}
use Rattle.grid_farm.specs.Uses.{draining_after, uses_after}

-- the nodes, requests and sessions, the slots in use, the nodes that are draining, the counts, the last moment, and the hour up to it
pub record Farm : Type 0 where
  pub past : Past
  pub uses : List UseRow
  pub draining : List ℕ
  pub counts : Counts
  pub at : ℕ
  pub hour : Hour

abbrev pub farm_after : Farm → Entry → Farm
farm_after farm entry = record {
  past = past_after farm.past entry;
  uses = uses_after farm.past.sessions farm.uses entry.change;
  draining = draining_after farm.draining entry.change;
  counts = counts_after farm.counts farm.past entry;
  at = clock_after farm.at entry.change;
  hour =
      hour_after farm.hour (minute_of (clock_after farm.at entry.change))
      (if is_created entry.change then 1 else 0)
      (length (past_after farm.past entry).unsettled);
}

abbrev pub no_farm : Farm
no_farm = record {
  past = no_past;
  uses = [];
  draining = [];
  counts = no_counts;
  at = 0;
  hour = no_hour;
}

-- what is known after a history: each entry adds to what was known before it
abbrev pub farm_of : List Entry → Farm
farm_of [] = no_farm
farm_of (entry ∷ history) = farm_after (farm_of history) entry
