-- What a summary counts.
use Rattle.std.specs.Prelude.{ℕ, Bool, true, false, not, List, length}
use Rattle.grid_types.specs.declared.entry.Entry.{Entry}
use Rattle.grid_types.specs.declared.entry.Change.{Change}
use Rattle.grid_types.specs.declared.entry.Change.TheVariants as change
use Rattle.grid_types.specs.Lists.{how_many}
use Rattle.grid_types.specs.Requests.{waiting_requests}
use Rattle.grid_types.specs.Sessions.{live_bindings}
use Rattle.grid_simulate.specs.declared.summary.Summary.{Summary}

-- the tests of a change
abbrev pub is_queued : Change → Bool
is_queued (change.Queued r choices deadline at) = true
is_queued c = false

abbrev pub is_bound : Change → Bool
is_bound (change.Bound r slot session caps at) = true
is_bound c = false

abbrev pub is_timed_out : Change → Bool
is_timed_out (change.TimedOut r at) = true
is_timed_out c = false

-- a failed start that was the last one of its request, or was not
abbrev pub is_refused : Change → Bool
is_refused (change.Failed r slot why orphan last at) = last
is_refused c = false

abbrev pub is_retried : Change → Bool
is_retried (change.Failed r slot why orphan last at) = not last
is_retried c = false

abbrev pub is_cleared : Change → Bool
is_cleared (change.Cleared r at) = true
is_cleared c = false

abbrev pub is_ended : Change → Bool
is_ended (change.Ended binding cause at) = true
is_ended c = false

abbrev pub is_lapsed : Change → Bool
is_lapsed (change.Lapsed n at) = true
is_lapsed c = false

-- how many entries have such a change
abbrev pub count : (Change → Bool) → List Entry → ℕ
count test H = how_many (λ e. test e.change) H

-- the counts over a history
abbrev pub summary_of : List Entry → Summary
summary_of H = record {
  queued = count is_queued H;
  created = count is_bound H;
  timed_out = count is_timed_out H;
  refused = count is_refused H;
  cleared = count is_cleared H;
  waiting = length (waiting_requests H);
  retried = count is_retried H;
  ended = count is_ended H;
  lapsed = count is_lapsed H;
  live = length (live_bindings H);
}
