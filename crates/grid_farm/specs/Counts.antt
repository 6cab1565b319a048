-- What is counted over a history.
use Rattle.std.specs.Prelude.{ℕ, ◌+◌, ◌-◌, ◌^◌, min, Bool, false, nat_le, length, filter, Option, None, Some, if◌then◌else◌}
use Rattle.grid_types.specs.declared.entry.Entry.{Entry}
use Rattle.grid_types.specs.declared.entry.Change.{Change}
use Rattle.grid_types.specs.declared.entry.Change.TheVariants as change
use Rattle.grid_types.specs.Lists.{has}
use Rattle.grid_log.specs.Events.{since}
use Rattle.grid_log.specs.Past.{Past, is_clearing, queued_in, runs_on}
use Rattle.grid_farm.specs.declared.counts.Counts.{Counts}
use Rattle.grid_farm.specs.declared.counts.NodeCounts.{NodeCounts}
use Rattle.grid_farm.specs.declared.counts.RequestCounts.{RequestCounts}
use Rattle.grid_farm.specs.declared.counts.SessionCounts.{SessionCounts}
use Rattle.grid_farm.specs.declared.counts.WaitCounts.{WaitCounts}
use Rattle.grid_farm.specs.declared.kind.Kind.{Kind}
use Rattle.grid_farm.specs.declared.kind.Kind.TheVariants as kind
use Rattle.grid_farm.specs.Kinds.{is_of}

-- a sum, as far as 64 bits count
abbrev pub plus : ℕ → ℕ → ℕ
plus count more = min (count + more) (2 ^ 64 - 1)

-- one more where it holds
abbrev pub plus_if : ℕ → Bool → ℕ
plus_if count holds = plus count (if holds then 1 else 0)

-- one more for an entry of the kind
abbrev pub with_kind : ℕ → Kind → Change → ℕ
with_kind count kind change = plus_if count (is_of kind change)

-- a node gives a sign of life that was suspect
abbrev pub is_back : Past → Change → Bool
is_back past (change.Beaten node at) = has node past.suspects
is_back past other = false

abbrev pub node_counts_after : NodeCounts → Past → Change → NodeCounts
node_counts_after counts past change = record {
  registered = with_kind counts.registered kind.Registered change;
  suspected = with_kind counts.suspected kind.Suspected change;
  back = plus_if counts.back (is_back past change);
  draining = with_kind counts.draining kind.Draining change;
  removed = with_kind counts.removed kind.Removed change;
  lapsed = with_kind counts.lapsed kind.Lapsed change;
}

-- an outcome is taken by the caller who cleared the request right before
abbrev pub is_withdrawn : Past → ℕ → Change → Bool
is_withdrawn past caller (change.Taken request at) = is_clearing caller request past.cleared
is_withdrawn past caller other = false

abbrev pub request_counts_after : RequestCounts → Past → Entry → RequestCounts
request_counts_after counts past entry = record {
  queued = with_kind counts.queued kind.Queued entry.change;
  timed_out = with_kind counts.timed_out kind.TimedOut entry.change;
  cleared = with_kind counts.cleared kind.Cleared entry.change;
  withdrawn = plus_if counts.withdrawn (is_withdrawn past entry.caller entry.change);
  refused = with_kind counts.refused kind.Refused entry.change;
}

-- how many sessions end with a node that lapses
abbrev pub ended_with_node : Past → Change → ℕ
ended_with_node past (change.Lapsed node at) = length (filter (runs_on node) past.sessions)
ended_with_node past other = 0

abbrev pub session_counts_after : SessionCounts → Past → Change → SessionCounts
session_counts_after counts past change = record {
  created = with_kind counts.created kind.Created change;
  failed = with_kind counts.failed kind.Failed change;
  quit = with_kind counts.quit kind.Quit change;
  idle = with_kind counts.idle kind.Idle change;
  with_node = plus counts.with_node (ended_with_node past change);
}

-- how long the request of a session that is created had waited, where that is known
abbrev pub waited_in : Past → Change → Option ℕ
waited_in past (change.Bound request slot session capabilities at) =
    since at.0 (queued_in past.unsettled request)
waited_in past other = None

-- one more where the wait was at most so long
abbrev pub plus_within : ℕ → ℕ → ℕ → ℕ
plus_within count waited limit = plus_if count (nat_le waited limit)

abbrev pub with_wait : WaitCounts → Option ℕ → WaitCounts
with_wait counts None = counts
with_wait counts (Some waited) = record {
  within_100 = plus_within counts.within_100 waited 100;
  within_500 = plus_within counts.within_500 waited 500;
  within_1000 = plus_within counts.within_1000 waited 1000;
  within_5000 = plus_within counts.within_5000 waited 5000;
  within_15000 = plus_within counts.within_15000 waited 15_000;
  within_60000 = plus_within counts.within_60000 waited 60_000;
  within_300000 = plus_within counts.within_300000 waited 300_000;
  count = plus counts.count 1;
  sum_ms = plus counts.sum_ms waited;
}

abbrev pub counts_after : Counts → Past → Entry → Counts
counts_after counts past entry = record {
  entries = plus counts.entries 1;
  nodes = node_counts_after counts.nodes past entry.change;
  requests = request_counts_after counts.requests past entry;
  sessions = session_counts_after counts.sessions past entry.change;
  waits = with_wait counts.waits (waited_in past entry.change);
}

-- nothing was counted yet
abbrev pub no_counts : Counts
no_counts = record {
  entries = 0;
  nodes = record {
    registered = 0;
    suspected = 0;
    back = 0;
    draining = 0;
    removed = 0;
    lapsed = 0;
  };
  requests = record { queued = 0; timed_out = 0; cleared = 0; withdrawn = 0; refused = 0 };
  sessions = record { created = 0; failed = 0; quit = 0; idle = 0; with_node = 0 };
  waits = record {
    within_100 = 0;
    within_500 = 0;
    within_1000 = 0;
    within_5000 = 0;
    within_15000 = 0;
    within_60000 = 0;
    within_300000 = 0;
    count = 0;
    sum_ms = 0;
  };
}
