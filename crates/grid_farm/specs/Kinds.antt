-- The kinds of entries that are counted.
use Rattle.std.specs.Prelude.{Bool, true, false}
use Rattle.grid_types.specs.declared.entry.Change.{Change}
use Rattle.grid_types.specs.declared.entry.Change.TheVariants as change
use Rattle.grid_types.specs.declared.entry.EndCause.TheVariants as cause
use Rattle.grid_farm.specs.declared.kind.Kind.{Kind}
use Rattle.grid_farm.specs.declared.kind.Kind.TheVariants as kind

abbrev pub is_registered : Change → Bool
is_registered (change.Registered node registration at) = true
is_registered other = false

abbrev pub is_suspected : Change → Bool
is_suspected (change.Suspected node at) = true
is_suspected other = false

abbrev pub is_draining : Change → Bool
is_draining (change.Draining node at) = true
is_draining other = false

abbrev pub is_removed : Change → Bool
is_removed (change.Removed node at) = true
is_removed other = false

abbrev pub is_lapsed : Change → Bool
is_lapsed (change.Lapsed node at) = true
is_lapsed other = false

abbrev pub is_queued : Change → Bool
is_queued (change.Queued request choices deadline at) = true
is_queued other = false

abbrev pub is_timed_out : Change → Bool
is_timed_out (change.TimedOut request at) = true
is_timed_out other = false

abbrev pub is_cleared : Change → Bool
is_cleared (change.Cleared request at) = true
is_cleared other = false

-- a start failed, and perhaps the request with it
abbrev pub is_failed : Change → Bool
is_failed (change.Failed request slot reason orphan last at) = true
is_failed other = false

abbrev pub is_refused : Change → Bool
is_refused (change.Failed request slot reason orphan last at) = last
is_refused other = false

abbrev pub is_created : Change → Bool
is_created (change.Bound request slot session capabilities at) = true
is_created other = false

abbrev pub is_quit : Change → Bool
is_quit (change.Ended binding cause.Quit at) = true
is_quit other = false

abbrev pub is_idle : Change → Bool
is_idle (change.Ended binding cause.Idle at) = true
is_idle other = false

abbrev pub is_of : Kind → Change → Bool
is_of kind.Registered change = is_registered change
is_of kind.Suspected change = is_suspected change
is_of kind.Draining change = is_draining change
is_of kind.Removed change = is_removed change
is_of kind.Lapsed change = is_lapsed change
is_of kind.Queued change = is_queued change
is_of kind.TimedOut change = is_timed_out change
is_of kind.Cleared change = is_cleared change
is_of kind.Failed change = is_failed change
is_of kind.Refused change = is_refused change
is_of kind.Created change = is_created change
is_of kind.Quit change = is_quit change
is_of kind.Idle change = is_idle change
