-- The kinds of entries that are counted.
use Rattle.std.specs.Prelude.{Bool}
use Rattle.grid_types.specs.declared.entry.Change.{Change}
use Rattle.grid_simulate.specs.declared.summary.Kind.{Kind}
use Rattle.grid_simulate.specs.declared.summary.Kind.TheVariants as kind
use Rattle.grid_simulate.specs.Counts.{is_queued, is_bound, is_timed_out, is_refused, is_cleared, is_retried, is_ended, is_lapsed}

abbrev pub is_of : Kind → Change → Bool
is_of kind.Queued c = is_queued c
is_of kind.Created c = is_bound c
is_of kind.TimedOut c = is_timed_out c
is_of kind.Refused c = is_refused c
is_of kind.Cleared c = is_cleared c
is_of kind.Retried c = is_retried c
is_of kind.Ended c = is_ended c
is_of kind.Lapsed c = is_lapsed c
