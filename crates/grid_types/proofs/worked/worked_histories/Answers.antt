use Rattle.std.proofs.Common.{refl}
use Rattle.grid_types.specs.Capabilities.{written_caps, request_bytes}
use Rattle.grid_types.specs.Matching.{matches, meets}
use Rattle.grid_types.specs.Fit.{fits, serves}
use Rattle.grid_types.specs.Choice.{chosen}
use Rattle.grid_types.specs.Permitted.{permitted, is_last}
use Rattle.grid_types.specs.Overview.{view_of}
use Rattle.grid_types.specs.HubAnswers.{hub}
use Rattle.grid_types.proofs.worked.worked_histories.Goals as goal

pub returns-clause-matching : goal.returns-clause-matching
unfolding hub chosen fits matches is_last meets serves request_bytes written_caps permitted view_of
returns-clause-matching c = record {
  version = refl;
  version_absent = refl;
  any_version_absent = refl;
  version_returned = refl;
  browser_without_case = refl;
  browser_other = refl;
  browser_pair = refl;
  browser_pair_back = refl;
  browser_mixed_pair = refl;
  browser_absent = refl;
  nothing_wanted = refl;
  browser_of_other_kind = refl;
  any_platform = refl;
  platform_family = refl;
  platform_of_family = refl;
  platform_darwin = refl;
  platform_ubuntu = refl;
  platform_absent = refl;
  platform_returned = refl;
  platform_returned_other = refl;
  extension_same = refl;
  extension_by_text = refl;
  extension_by_kind = refl;
  extension_flag = refl;
  extension_absent = refl;
  extension_of_vendor = refl;
  extension_prefix_case = refl;
  extension_returned = refl;
  no_colon = refl;
  version_word_not_returned = refl;
  version_not_returned = refl;
  platform_returned_family = refl;
  platform_names_no_family = refl;
  platform_other_name = refl;
  first_of_a_name = refl;
  first_is_no_text = refl;
}

pub returns-clause-writing : goal.returns-clause-writing
unfolding hub chosen fits matches is_last meets serves request_bytes written_caps permitted view_of
returns-clause-writing c = record {
  empty_choice = refl;
  one_text = refl;
  three_kinds = refl;
  two_choices = refl;
  escapes = refl;
}

pub returns-clause-busy_slot : goal.returns-clause-busy_slot
unfolding hub chosen fits matches is_last meets serves request_bytes written_caps permitted view_of
returns-clause-busy_slot c = record {
  passes = refl;
  none_left = refl;
  older_next = refl;
  is_legal = refl;
}

pub returns-clause-choice : goal.returns-clause-choice
unfolding hub chosen fits matches is_last meets serves request_bytes written_caps permitted view_of
returns-clause-choice c = record {
  second_choice = refl;
}

pub returns-clause-retry : goal.returns-clause-retry
unfolding hub chosen fits matches is_last meets serves request_bytes written_caps permitted view_of
returns-clause-retry c = record {
  again = refl;
  waits = refl;
  node_barred = refl;
  other_not_barred = refl;
  other_node = refl;
  last_one = refl;
  tells_why = refl;
  is_legal = refl;
}

pub returns-clause-late_bind : goal.returns-clause-late_bind
unfolding hub chosen fits matches is_last meets serves request_bytes written_caps permitted view_of
returns-clause-late_bind c = record {
  assigned = refl;
  times_out = refl;
  comes_late = refl;
  not_live = refl;
  takes_the_slot = refl;
  is_legal = refl;
}

pub returns-clause-deadline : goal.returns-clause-deadline
unfolding hub chosen fits matches is_last meets serves request_bytes written_caps permitted view_of
returns-clause-deadline c = record {
  before_it = refl;
  at_it = refl;
  swept_before = refl;
  swept_at_it = refl;
  swept_outcome = refl;
  assigned_before = refl;
  not_assigned_at_it = refl;
  not_permitted_before = refl;
  permitted_at_it = refl;
  raised = refl;
}

pub returns-clause-poll : goal.returns-clause-poll
unfolding hub chosen fits matches is_last meets serves request_bytes written_caps permitted view_of
returns-clause-poll c = record {
  no_slot = refl;
  slot_comes = refl;
  second_waits = refl;
  first_gets_it = refl;
  held_is_told_to_wait = refl;
  then_second = refl;
  created = refl;
  is_legal = refl;
}

pub returns-clause-full_queue : goal.returns-clause-full_queue
unfolding hub chosen fits matches is_last meets serves request_bytes written_caps permitted view_of
returns-clause-full_queue c = record {
  is_full = refl;
  clears = refl;
  tells_cleared = refl;
  full_while_waiting = refl;
  full_while_held = refl;
  held_not_cleared = refl;
  room_once_bound = refl;
  unsupported = refl;
  supported = refl;
  not_asked = refl;
}

pub returns-clause-withdrawals : goal.returns-clause-withdrawals
unfolding hub chosen fits matches is_last meets serves request_bytes written_caps permitted view_of
returns-clause-withdrawals c = record {
  withdraws = refl;
  next_is_assigned = refl;
  held_is_to_wait = refl;
  bound_is_told = refl;
  cleared_is_told = refl;
  overdue_is_withdrawn = refl;
  makes_room = refl;
  is_legal = refl;
}

pub returns-clause-sweep : goal.returns-clause-sweep
unfolding hub chosen fits matches is_last meets serves request_bytes written_caps permitted view_of
returns-clause-sweep c = record {
  makes = refl;
  counts = refl;
  two_lapses = refl;
  two_suspicions = refl;
}

pub returns-clause-equal_ids : goal.returns-clause-equal_ids
unfolding hub chosen fits matches is_last meets serves request_bytes written_caps permitted view_of
returns-clause-equal_ids c = record {
  at_two_addresses = refl;
  at_one_address = refl;
  still_first = refl;
  waits_again = refl;
  node_barred = refl;
  other_binding = refl;
  own_binding = refl;
  gone_at_one_address = refl;
  is_legal = refl;
}

pub returns-clause-mismatch : goal.returns-clause-mismatch
unfolding hub chosen fits matches is_last meets serves request_bytes written_caps permitted view_of
returns-clause-mismatch c = record {
  not_met = refl;
  tells_why = refl;
}

pub returns-clause-nodes : goal.returns-clause-nodes
unfolding hub chosen fits matches is_last meets serves request_bytes written_caps permitted view_of
returns-clause-nodes c = record {
  no_beat = refl;
  no_drain = refl;
  no_removal = refl;
  name_taken = refl;
  removed = refl;
  removed_once = refl;
  name_freed = refl;
  own_beat = refl;
  beat_of_the_other = refl;
  beat_of_nobody = refl;
  beat_of_no_number = refl;
  beat_after_removal = refl;
  other_beat_is_not_heard = refl;
}

pub returns-clause-lapse : goal.returns-clause-lapse
unfolding hub chosen fits matches is_last meets serves request_bytes written_caps permitted view_of
returns-clause-lapse c = record {
  before_it = refl;
  at_it = refl;
  after_a_beat = refl;
  not_permitted_before = refl;
  session_gone = refl;
  node_gone = refl;
  name_freed = refl;
  is_legal = refl;
}

pub returns-clause-publishing : goal.returns-clause-publishing
unfolding hub chosen fits matches is_last meets serves request_bytes written_caps permitted view_of
returns-clause-publishing c = record {
  puts = refl;
  ended = refl;
  lapsed = refl;
}

pub returns-clause-idle : goal.returns-clause-idle
unfolding hub chosen fits matches is_last meets serves request_bytes written_caps permitted view_of
returns-clause-idle c = record {
  before_it = refl;
  at_it = refl;
  not_permitted_before = refl;
  quit_any_time = refl;
  least_binding = refl;
}

pub returns-clause-drain : goal.returns-clause-drain
unfolding hub chosen fits matches is_last meets serves request_bytes written_caps permitted view_of
returns-clause-drain c = record {
  takes_none = refl;
  session_goes_on = refl;
  drain_again = refl;
  no_second_entry = refl;
  not_removed_yet = refl;
  removed = refl;
  not_listed = refl;
  listed_while_busy = refl;
  listed_though_gone = refl;
  still_beats = refl;
  ready_when_up = refl;
  is_legal = refl;
}

pub returns-clause-round : goal.returns-clause-round
unfolding hub chosen fits matches is_last meets serves request_bytes written_caps permitted view_of
returns-clause-round c = record {
  least_number = refl;
  never_reserved = refl;
  longest_ago = refl;
  least_load = refl;
  equal_load = refl;
}

pub returns-clause-numbers : goal.returns-clause-numbers
unfolding hub chosen fits matches is_last meets serves request_bytes written_caps permitted view_of
returns-clause-numbers c = record {
  requests = refl;
  last_request = refl;
  nodes = refl;
  last_node = refl;
  last_moment = refl;
  deadline_reaches_it = refl;
  deadline_below_it = refl;
  name_before_numbers = refl;
  numbers_before_support = refl;
}

pub returns-clause-refusals : goal.returns-clause-refusals
unfolding hub chosen fits matches is_last meets serves request_bytes written_caps permitted view_of
returns-clause-refusals c = record {
  order_kept = refl;
  not_bound_late = refl;
  not_held_twice = refl;
  not_the_last = refl;
  not_another_callers = refl;
  its_callers = refl;
  not_before_the_clock = refl;
}

pub returns-clause-suspect : goal.returns-clause-suspect
unfolding hub chosen fits matches is_last meets serves request_bytes written_caps permitted view_of
returns-clause-suspect c = record {
  before_it = refl;
  at_it = refl;
  once = refl;
  not_permitted_before = refl;
  not_permitted_twice = refl;
  session_stays = refl;
  deadline = refl;
  takes_none = refl;
  not_ready = refl;
  comes_back = refl;
  silent_again = refl;
  lapses = refl;
  session_gone = refl;
  node_gone = refl;
  name_freed = refl;
  may_come_back = refl;
  drains = refl;
  shown_suspect = refl;
  shown_draining = refl;
  is_legal = refl;
  drain_is_legal = refl;
}

pub returns-clause-count : goal.returns-clause-count
unfolding hub chosen fits matches is_last meets serves request_bytes written_caps permitted view_of
returns-clause-count c = record {
  first_gets_it = refl;
  held_one_counts = refl;
  is_bound = refl;
  drains = refl;
  bound_one_counts = refl;
  removed = refl;
  next_after_failure = refl;
  next_after_orphan = refl;
  drained_before = refl;
  is_legal = refl;
}

pub returns-clause-queue_time : goal.returns-clause-queue_time
unfolding hub chosen fits matches is_last meets serves request_bytes written_caps permitted view_of
returns-clause-queue_time c = record {
  asked = refl;
  least = refl;
  below_least = refl;
  most = refl;
  above_most = refl;
  no_text = refl;
  no_fraction = refl;
  behind_others = refl;
  first_list = refl;
  first_that_asks = refl;
  deadline = refl;
}
