-- The definitions at concrete histories: what the hub answers after some calls, and what may not
-- follow. Each expected answer was worked out by hand from the rules, and each is proved by
-- computing the definitions.
use Rattle.std.specs.Prelude.{◌≡◌, ℕ, ◌-◌, ◌^◌, Bool, true, false, List, [], ◌∷◌, ◌++◌, map, length, codes, None, Some}
use Rattle.grid_types.specs.declared.capabilities.Cap.{Cap}
use Rattle.grid_types.specs.declared.capabilities.CapValue.{CapValue}
use Rattle.grid_types.specs.declared.capabilities.CapValue.TheVariants as value
use Rattle.grid_types.specs.declared.capabilities.Registration.{Registration}
use Rattle.grid_types.specs.declared.config.HubConfig.{HubConfig}
use Rattle.grid_types.specs.declared.entry.Entry.{Entry}
use Rattle.grid_types.specs.declared.entry.Change.{Change}
use Rattle.grid_types.specs.declared.entry.Change.TheVariants as change
use Rattle.grid_types.specs.declared.entry.EndCause.TheVariants as cause
use Rattle.grid_types.specs.declared.entry.FailWhy.TheVariants as why
use Rattle.grid_types.specs.declared.entry.Found.TheVariants as found
use Rattle.grid_types.specs.declared.entry.Outcome.TheVariants as outcome
use Rattle.grid_types.specs.declared.names.SlotId.{SlotId}
use Rattle.grid_types.specs.declared.names.Moment.{Moment}
use Rattle.grid_types.specs.declared.view.View.{View}
use Rattle.grid_types.specs.declared.view.Standing.{Standing}
use Rattle.grid_types.specs.declared.view.Standing.TheVariants as standing
use Rattle.grid_types.specs.declared.view.SlotState.TheVariants as state
use Rattle.grid_types.specs.Config.{default_config}
use Rattle.grid_types.specs.Capabilities.{written_caps, request_bytes, json_string}
use Rattle.grid_types.specs.QueueTime.{queue_time}
use Rattle.grid_types.specs.Matching.{matches, meets}
use Rattle.grid_types.specs.Requests.{is_barred, place, waiting}
use Rattle.grid_types.specs.Permitted.{permitted, deadline_at}
use Rattle.grid_types.specs.Legal.{legal}
use Rattle.grid_types.specs.Tokens.{Ticket, Reservation, Closing}
use Rattle.grid_types.specs.Calls.{Call, Reply}
use Rattle.grid_types.specs.HubAnswers.{hub, after_call}
use Rattle.grid_types.specs.LookupMap.{Item, put, removal, changes}

-- the calls of caller 0, with their moments, one after the other
abbrev pub run : HubConfig → List Entry → List (Call × ℕ) → List Entry
run c H [] = H
run c H (s ∷ ss) = run c (after_call c H 0 s.0 s.1) ss

-- the reply to a call after those calls
abbrev pub reply_after : HubConfig → List (Call × ℕ) → Call → ℕ → Reply
reply_after c steps k at = (hub c (run c [] steps) 0 k at).reply

-- the change may follow those calls, made by the caller
abbrev pub and_then : HubConfig → List (Call × ℕ) → ℕ → Change → Bool
and_then c steps caller change = permitted c (run c [] steps) caller change

-- a moment
abbrev pub time : ℕ → Moment
time m = record { 0 = m }

-- capabilities of one text member
abbrev pub of_text : List ℕ → List ℕ → List Cap
of_text name text = record { name = name; value = value.Text text } ∷ []

-- capabilities of a browser's name alone
abbrev pub named : List ℕ → List Cap
named name = of_text (codes "browserName") name

-- a node of so many slots of one browser
abbrev pub node : List ℕ → List ℕ → List ℕ → ℕ → Registration
node name address browser slots = record {
  name = name;
  address = address;
  max_sessions = slots;
  groups = record { stereotype = named browser; count = slots } ∷ [];
  drain_after = None;
}

-- a node's first slot
abbrev pub slot : ℕ → SlotId
slot n = record { node = n; index = 0 }

-- a request's ticket
abbrev pub ticket : ℕ → ℕ → Ticket
ticket r deadline = record { request = r; deadline = deadline }

-- a reservation of a node's first slot, for the first choice
abbrev pub reservation : ℕ → ℕ → List ℕ → List ℕ → Reservation
reservation r n address browser = record { request = r; slot = slot n; choice = 0; address = address; wanted = named browser }

-- a closing of a node's first slot
abbrev pub closing : List ℕ → ℕ → List ℕ → Bool → Closing
closing x n address quit = record { session = x; slot = slot n; address = address; quit = quit }

-- a browser
abbrev pub chrome : List ℕ
chrome = codes "chrome"

-- another browser
abbrev pub firefox : List ℕ
firefox = codes "firefox"

-- the address of the first node
abbrev pub first_address : List ℕ
first_address = codes "x:1"

-- the address of the second node
abbrev pub second_address : List ℕ
second_address = codes "x:2"

-- the address of a third node
abbrev pub third_address : List ℕ
third_address = codes "x:3"

-- the enqueue of a request for this browser
abbrev pub wants : List ℕ → Call
wants browser = Call.enqueue (named browser ∷ [])

-- the registration of a node of one slot
abbrev pub first_node : Call
first_node = Call.register (node (codes "a") first_address chrome 1)

-- the registration of another node of one slot, at this address
abbrev pub second_node : List ℕ → Call
second_node address = Call.register (node (codes "b") address chrome 1)

-- the bind of a session by a reservation
abbrev pub binds : ℕ → ℕ → List ℕ → List ℕ → Call
binds r n address session = Call.bind (reservation r n address chrome) session (named chrome)

-- matching: versions, browsers, platforms and extensions; the wanted one first
abbrev pub versions : (List Cap → List Cap → Bool) → List (List ℕ) → List Bool
versions test = map (λ v. test (of_text (codes "browserVersion") v) (of_text (codes "browserVersion") (codes "126.0")))

abbrev pub browsers : List ℕ → List ℕ → Bool
browsers a b = matches (named a) (named b)

abbrev pub platforms : (List Cap → List Cap → Bool) → List ℕ → List ℕ → Bool
platforms test a b = test (of_text (codes "platformName") a) (of_text (codes "platformName") b)

abbrev pub extensions : List ℕ → CapValue → CapValue → Bool
extensions name a b = matches (record { name = name; value = a } ∷ []) (record { name = name; value = b } ∷ [])

pub record WorkedMatching : Type 0 where
  pub version : versions matches (codes "12" ∷ codes "126" ∷ codes "126.0" ∷ codes "126." ∷ codes "stable" ∷ [] ∷ codes "beta" ∷ [])
      ≡ false ∷ true ∷ true ∷ false ∷ true ∷ true ∷ false ∷ []
  pub version_absent : matches (of_text (codes "browserVersion") (codes "126")) (named chrome) ≡ false
  pub any_version_absent : matches (of_text (codes "browserVersion") (codes "stable")) (named chrome) ≡ true
  pub version_returned : versions meets (codes "12" ∷ codes "126" ∷ codes "126." ∷ codes "stable" ∷ [] ∷ codes "beta" ∷ []) ≡ false ∷ true ∷ false ∷ true ∷ true ∷ true ∷ []
  pub browser_without_case : browsers (codes "Chrome") (codes "cHROME") ≡ true
  pub browser_other : browsers chrome firefox ≡ false
  pub browser_pair : browsers (codes "MSEdge") (codes "MicrosoftEdge") ≡ true
  pub browser_pair_back : browsers (codes "chrome-headless-shell") chrome ≡ true
  pub browser_mixed_pair : browsers (codes "msedge") (codes "chrome-headless-shell") ≡ false
  pub browser_absent : matches (named chrome) [] ≡ false
  pub nothing_wanted : matches [] (named chrome) ≡ true
  pub browser_of_other_kind : matches (record { name = codes "browserName"; value = value.Flag true } ∷ []) (named chrome) ≡ true
  pub any_platform : matches (of_text (codes "platformName") (codes "ANY")) [] ≡ true
  pub platform_family : platforms matches (codes "Windows") (codes "win11") ≡ true
  pub platform_of_family : platforms matches (codes "win11") (codes "windows") ≡ false
  pub platform_darwin : platforms matches (codes "macos") (codes "Darwin") ≡ true
  pub platform_ubuntu : platforms matches (codes "linux") (codes "ubuntu") ≡ true
  pub platform_absent : matches (of_text (codes "platformName") (codes "linux")) [] ≡ false
  pub platform_returned : platforms meets (codes "win11") (codes "windows") ≡ true
  pub platform_returned_other : platforms meets (codes "win11") (codes "linux") ≡ false
  pub extension_same : extensions (codes "my:key") (value.Raw (codes "1.0")) (value.Raw (codes "1.0")) ≡ true
  pub extension_by_text : extensions (codes "my:key") (value.Raw (codes "1.0")) (value.Raw (codes "1")) ≡ false
  pub extension_by_kind : extensions (codes "my:key") (value.Text (codes "true")) (value.Flag true) ≡ false
  pub extension_flag : extensions (codes "my:key") (value.Flag false) (value.Flag true) ≡ false
  pub extension_absent : matches (of_text (codes "my:key") []) [] ≡ false
  pub extension_of_vendor : matches (of_text (codes "goog:chromeOptions") []) [] ≡ true
  pub extension_prefix_case : matches (of_text (codes "Goog:chromeOptions") []) [] ≡ false
  pub extension_returned : meets (of_text (codes "my:key") []) [] ≡ true
  pub no_colon : matches (of_text (codes "pageLoadStrategy") (codes "eager")) [] ≡ true
  pub version_word_not_returned : meets (of_text (codes "browserVersion") (codes "beta")) [] ≡ true
  pub version_not_returned : meets (of_text (codes "browserVersion") (codes "126")) [] ≡ false
  pub platform_returned_family : platforms meets (codes "ubuntu") (codes "linux") ≡ true
  pub platform_names_no_family : platforms matches (codes "ubuntu") (codes "linux") ≡ false
  pub platform_other_name : platforms matches (codes "macOS") (codes "mac") ≡ true
  -- of members of one name the first is read, also where it is no text
  pub first_of_a_name : matches (named chrome) (named firefox ++ named chrome) ≡ false
  pub first_is_no_text : matches (record { name = codes "browserName"; value = value.Flag true } ∷ named chrome) [] ≡ true

-- how capabilities are written, and the bytes of a request
pub record WorkedWriting : Type 0 where
  pub empty_choice : request_bytes ([] ∷ []) ≡ 2
  pub one_text : written_caps (named chrome) ≡ codes "{\"browserName\":\"chrome\"}"
  pub three_kinds : written_caps (record { name = codes "a"; value = value.Flag true } ∷ record { name = codes "b:\"c"; value = value.Raw (codes "[1.0]") } ∷ of_text (codes "d") (10 ∷ 31 ∷ []))
      ≡ codes "{\"a\":true,\"b:\\\"c\":[1.0],\"d\":\"\\n\\u001f\"}"
  pub two_choices : request_bytes (named chrome ∷ [] ∷ []) ≡ 26
  pub escapes : json_string (1 ∷ 8 ∷ 9 ∷ 10 ∷ 12 ∷ 13 ∷ 31 ∷ 34 ∷ 47 ∷ 92 ∷ 127 ∷ 195 ∷ 169 ∷ [])
      ≡ codes "\"\\u0001\\b\\t\\n\\f\\r\\u001f\\\"/\\\\" ++ 127 ∷ 195 ∷ 169 ∷ 34 ∷ []

-- a later request that fits passes one that does not, which keeps its place
abbrev pub busy_slot : List (Call × ℕ)
busy_slot =
    (Call.register (node (codes "a") first_address firefox 1), 0) ∷ (second_node second_address, 0)
    ∷ (wants firefox, 1) ∷ (Call.dispatch, 1) ∷ (Call.bind (reservation 1 1 first_address firefox) (codes "s") (named firefox), 2)
    ∷ (wants firefox, 3) ∷ (wants chrome, 3) ∷ []

abbrev pub slot_freed : List (Call × ℕ)
slot_freed = busy_slot ++ (Call.dispatch, 4) ∷ (Call.end (codes "s") 1, 5) ∷ (Call.freed (closing (codes "s") 1 first_address true), 5) ∷ []

pub record WorkedBusySlot : Type 0 where
  pub passes : reply_after default_config busy_slot Call.dispatch 4 ≡ Reply.assigned (reservation 3 2 second_address chrome)
  pub none_left : reply_after default_config (busy_slot ++ (Call.dispatch, 4) ∷ []) Call.dispatch 4 ≡ Reply.nothing
  pub older_next : reply_after default_config slot_freed Call.dispatch 6 ≡ Reply.assigned (reservation 2 1 first_address firefox)
  pub is_legal : legal default_config (run default_config [] slot_freed) ≡ true

-- the first choice that some slot matches
pub record WorkedChoice : Type 0 where
  pub second_choice : reply_after default_config ((Call.register (node (codes "a") first_address firefox 1), 0) ∷ (Call.enqueue (named (codes "safari") ∷ named firefox ∷ []), 0) ∷ []) Call.dispatch 0
      ≡ Reply.assigned (record { request = 1; slot = slot 1; choice = 1; address = first_address; wanted = named firefox })

-- a start that fails is tried again at another node, and not at the one where it failed; the last
-- failure settles the request
abbrev pub first_start : List (Call × ℕ)
first_start = (first_node, 0) ∷ (second_node second_address, 0) ∷ (wants chrome, 0) ∷ (Call.dispatch, 0) ∷ []

abbrev pub fails : ℕ → List ℕ → Call
fails n address = Call.fail (reservation 1 n address chrome) why.Unreachable

abbrev pub second_start : List (Call × ℕ)
second_start = first_start ++ (fails 1 first_address, 1) ∷ (Call.dispatch, 1) ∷ []

pub record WorkedRetry : Type 0 where
  pub again : reply_after default_config first_start (fails 1 first_address) 1 ≡ Reply.failed_again
  pub waits : place (run default_config [] (first_start ++ (fails 1 first_address, 1) ∷ [])) 1 ≡ waiting
  pub node_barred : is_barred (run default_config [] second_start) 1 1 ≡ true
  pub other_not_barred : is_barred (run default_config [] second_start) 1 2 ≡ false
  pub other_node : reply_after default_config (first_start ++ (fails 1 first_address, 1) ∷ []) Call.dispatch 1 ≡ Reply.assigned (reservation 1 2 second_address chrome)
  pub last_one : reply_after default_config second_start (fails 2 second_address) 2 ≡ Reply.failed_refused
  pub tells_why : reply_after default_config (second_start ++ (fails 2 second_address, 2) ∷ []) (Call.poll (ticket 1 300_000)) 2 ≡ Reply.settled (outcome.StartFailed why.Unreachable)
  pub is_legal : legal default_config (run default_config [] (second_start ++ (fails 2 second_address, 2) ∷ (Call.poll (ticket 1 300_000), 2) ∷ [])) ≡ true

-- a deadline that passes while a start is on its way: the session that comes late is not kept
abbrev pub on_its_way : List (Call × ℕ)
on_its_way = (wants chrome, 0) ∷ (first_node, 250_000) ∷ (Call.dispatch, 299_990) ∷ []

abbrev pub timed_out : List (Call × ℕ)
timed_out = on_its_way ++ (Call.poll (ticket 1 300_000), 300_000) ∷ []

abbrev pub bound_late : List (Call × ℕ)
bound_late = timed_out ++ (binds 1 1 first_address (codes "a"), 300_001) ∷ []

abbrev pub next_in_line : List (Call × ℕ)
next_in_line = bound_late ++ (Call.freed (closing (codes "a") 1 first_address true), 300_001) ∷ (wants chrome, 300_002) ∷ []

pub record WorkedLateBind : Type 0 where
  pub assigned : reply_after default_config ((wants chrome, 0) ∷ (first_node, 250_000) ∷ []) Call.dispatch 299_990 ≡ Reply.assigned (reservation 1 1 first_address chrome)
  pub times_out : reply_after default_config on_its_way (Call.poll (ticket 1 300_000)) 300_000 ≡ Reply.settled (outcome.TimedOut (time 300_000))
  pub comes_late : reply_after default_config timed_out (binds 1 1 first_address (codes "a")) 300_001 ≡ Reply.late (closing (codes "a") 1 first_address true)
  pub not_live : reply_after default_config bound_late (Call.lookup (codes "a")) 300_001 ≡ Reply.found found.NoSession
  pub takes_the_slot : reply_after default_config next_in_line Call.dispatch 300_002 ≡ Reply.assigned (reservation 2 1 first_address chrome)
  pub is_legal : legal default_config (run default_config [] next_in_line) ≡ true

-- a time-out comes at the deadline and not a millisecond before it, and nothing is assigned from
-- the deadline on
abbrev pub unserved : List (Call × ℕ)
unserved = (wants chrome, 0) ∷ []

abbrev pub unserved_in_time : List (Call × ℕ)
unserved_in_time = (wants chrome, 0) ∷ (first_node, 0) ∷ []

pub record WorkedDeadline : Type 0 where
  pub before_it : reply_after default_config unserved (Call.poll (ticket 1 300_000)) 299_999 ≡ Reply.not_yet (ticket 1 300_000)
  pub at_it : reply_after default_config unserved (Call.poll (ticket 1 300_000)) 300_000 ≡ Reply.settled (outcome.TimedOut (time 300_000))
  pub swept_before : reply_after default_config unserved Call.sweep 299_999 ≡ Reply.swept 0 0 0 0
  pub swept_at_it : reply_after default_config unserved Call.sweep 300_000 ≡ Reply.swept 0 0 1 0
  pub swept_outcome : reply_after default_config (unserved ++ (Call.sweep, 300_001) ∷ []) (Call.poll (ticket 1 300_000)) 300_002 ≡ Reply.settled (outcome.TimedOut (time 300_000))
  pub assigned_before : reply_after default_config unserved_in_time Call.dispatch 299_999 ≡ Reply.assigned (reservation 1 1 first_address chrome)
  pub not_assigned_at_it : reply_after default_config unserved_in_time Call.dispatch 300_000 ≡ Reply.nothing
  pub not_permitted_before : and_then default_config unserved 0 (change.TimedOut 1 (time 299_999)) ≡ false
  pub permitted_at_it : and_then default_config unserved 0 (change.TimedOut 1 (time 300_000)) ≡ true
  -- a moment that is earlier than the last one is raised to it
  pub raised : reply_after default_config ((wants chrome, 5) ∷ []) (wants chrome) 3 ≡ Reply.queued (ticket 2 300_005)

-- a poll is told to wait while its request is not the chosen one, and then gets the slot
abbrev pub two_wait : List (Call × ℕ)
two_wait = (first_node, 0) ∷ (wants chrome, 0) ∷ (wants chrome, 0) ∷ []

abbrev pub first_over : List (Call × ℕ)
first_over =
    two_wait ++ (Call.poll (ticket 1 300_000), 1) ∷ (binds 1 1 first_address (codes "a"), 2) ∷ (Call.end (codes "a") 1, 3)
    ∷ (Call.freed (closing (codes "a") 1 first_address true), 3) ∷ []

pub record WorkedPoll : Type 0 where
  pub no_slot : reply_after default_config unserved (Call.poll (ticket 1 300_000)) 1 ≡ Reply.not_yet (ticket 1 300_000)
  pub slot_comes : reply_after default_config unserved_in_time (Call.poll (ticket 1 300_000)) 1 ≡ Reply.yours (ticket 1 300_000) (reservation 1 1 first_address chrome)
  pub second_waits : reply_after default_config two_wait (Call.poll (ticket 2 300_000)) 1 ≡ Reply.not_yet (ticket 2 300_000)
  pub first_gets_it : reply_after default_config two_wait (Call.poll (ticket 1 300_000)) 1 ≡ Reply.yours (ticket 1 300_000) (reservation 1 1 first_address chrome)
  pub held_is_told_to_wait : reply_after default_config (two_wait ++ (Call.poll (ticket 1 300_000), 1) ∷ []) (Call.poll (ticket 1 300_000)) 1 ≡ Reply.not_yet (ticket 1 300_000)
  pub then_second : reply_after default_config first_over (Call.poll (ticket 2 300_000)) 4 ≡ Reply.yours (ticket 2 300_000) (reservation 2 1 first_address chrome)
  pub created : reply_after default_config first_over (Call.poll (ticket 1 300_000)) 4
      ≡ Reply.settled (outcome.Created (codes "a") (named chrome) (slot 1) first_address 1)
  pub is_legal : legal default_config (run default_config [] first_over) ≡ true

-- a full queue, and its clearing; a queue of one is full until its request is settled
abbrev pub small_queue : ℕ → HubConfig
small_queue n = record default_config { queue_requests = n }

abbrev pub full_queue : List (Call × ℕ)
full_queue = (Call.enqueue ([] ∷ []), 0) ∷ (Call.enqueue ([] ∷ []), 0) ∷ []

abbrev pub one_queued : List (Call × ℕ)
one_queued = (first_node, 0) ∷ (wants chrome, 0) ∷ []

pub record WorkedFullQueue : Type 0 where
  pub is_full : reply_after (small_queue 2) full_queue (Call.enqueue ([] ∷ [])) 0 ≡ Reply.queue_full 2 4
  pub clears : reply_after (small_queue 2) full_queue Call.clear 0 ≡ Reply.cleared 2
  pub tells_cleared : reply_after (small_queue 2) (full_queue ++ (Call.clear, 0) ∷ []) (Call.poll (ticket 2 300_000)) 0 ≡ Reply.settled outcome.Cleared
  pub full_while_waiting : reply_after (small_queue 1) one_queued (Call.enqueue ([] ∷ [])) 0 ≡ Reply.queue_full 1 24
  pub full_while_held : reply_after (small_queue 1) (one_queued ++ (Call.dispatch, 0) ∷ []) (Call.enqueue ([] ∷ [])) 0 ≡ Reply.queue_full 1 24
  pub held_not_cleared : reply_after (small_queue 1) (one_queued ++ (Call.dispatch, 0) ∷ []) Call.clear 0 ≡ Reply.cleared 0
  pub room_once_bound : reply_after (small_queue 1) (one_queued ++ (Call.dispatch, 0) ∷ (binds 1 1 first_address (codes "a"), 1) ∷ []) (Call.enqueue ([] ∷ [])) 1 ≡ Reply.queued (ticket 2 300_001)
  pub unsupported : reply_after (record default_config { reject_unsupported = true }) ((first_node, 0) ∷ []) (wants firefox) 0 ≡ Reply.unsupported
  pub supported : reply_after (record default_config { reject_unsupported = true }) ((first_node, 0) ∷ []) (wants chrome) 0 ≡ Reply.queued (ticket 1 300_000)
  pub not_asked : reply_after default_config ((first_node, 0) ∷ []) (wants firefox) 0 ≡ Reply.queued (ticket 1 300_000)

-- two wait for the only slot, and the first is withdrawn
abbrev pub one_withdrawn : List (Call × ℕ)
one_withdrawn = one_queued ++ (wants chrome, 0) ∷ (Call.withdraw (ticket 1 300_000), 1) ∷ []

pub record WorkedWithdrawals : Type 0 where
  pub withdraws : reply_after default_config one_queued (Call.withdraw (ticket 1 300_000)) 1 ≡ Reply.withdrawn
  pub next_is_assigned : reply_after default_config one_withdrawn Call.dispatch 1 ≡ Reply.assigned (reservation 2 1 first_address chrome)
  pub held_is_to_wait : reply_after default_config (one_queued ++ (Call.dispatch, 0) ∷ []) (Call.withdraw (ticket 1 300_000)) 1
      ≡ Reply.not_yet (ticket 1 300_000)
  pub bound_is_told : reply_after default_config (one_queued ++ (Call.dispatch, 0) ∷ (binds 1 1 first_address (codes "a"), 1) ∷ [])
      (Call.withdraw (ticket 1 300_000)) 1 ≡ Reply.settled (outcome.Created (codes "a") (named chrome) (slot 1) first_address 1)
  pub cleared_is_told : reply_after (small_queue 2) (full_queue ++ (Call.clear, 0) ∷ []) (Call.withdraw (ticket 2 300_000)) 0
      ≡ Reply.settled outcome.Cleared
  pub overdue_is_withdrawn : reply_after default_config one_queued (Call.withdraw (ticket 1 300_000)) 300_000 ≡ Reply.withdrawn
  pub makes_room : reply_after (small_queue 1) (one_queued ++ (Call.withdraw (ticket 1 300_000), 0) ∷ []) (Call.enqueue ([] ∷ [])) 0
      ≡ Reply.queued (ticket 2 300_000)
  pub is_legal : legal default_config (run default_config [] one_withdrawn) ≡ true

-- a sweep: lapses, then suspicions, then time-outs, then removals, each by ascending number
abbrev pub all_at_once : List (Call × ℕ)
all_at_once =
    (Call.register (node (codes "a") first_address firefox 1), 0) ∷ (Call.register (node (codes "b") second_address firefox 1), 0)
    ∷ (Call.register (node (codes "c") third_address firefox 1), 0) ∷ (wants chrome, 0) ∷ (wants chrome, 0)
    ∷ (Call.drain 1, 1) ∷ (Call.drain 2, 1) ∷ (Call.beat 3 None, 170_000) ∷ (Call.beat 1 None, 290_000) ∷ []

pub record WorkedSweep : Type 0 where
  pub makes : (hub default_config (run default_config [] all_at_once) 0 Call.sweep 300_000).changes
      ≡ change.Lapsed 2 (time 300_000) ∷ change.Suspected 3 (time 300_000) ∷ change.TimedOut 1 (time 300_000) ∷ change.TimedOut 2 (time 300_000) ∷ change.Removed 1 (time 300_000) ∷ []
  pub counts : reply_after default_config all_at_once Call.sweep 300_000 ≡ Reply.swept 1 1 2 1
  pub two_lapses : (hub default_config (run default_config [] ((first_node, 0) ∷ (second_node second_address, 0) ∷ [])) 0 Call.sweep 240_000).changes ≡ change.Lapsed 1 (time 240_000) ∷ change.Lapsed 2 (time 240_000) ∷ []
  pub two_suspicions : (hub default_config (run default_config [] ((first_node, 0) ∷ (second_node second_address, 0) ∷ [])) 0 Call.sweep 120_000).changes ≡ change.Suspected 1 (time 120_000) ∷ change.Suspected 2 (time 120_000) ∷ []

-- one session id at two nodes: the second is not kept, and is ended at its node only where that is
-- another address
abbrev pub two_nodes : List ℕ → List (Call × ℕ)
two_nodes second =
    (first_node, 0) ∷ (second_node second, 0) ∷ (wants chrome, 0) ∷ (wants chrome, 0) ∷ (Call.dispatch, 0) ∷ (Call.dispatch, 0)
    ∷ (binds 1 1 first_address (codes "a"), 1) ∷ []

abbrev pub after_duplicate : List (Call × ℕ)
after_duplicate = two_nodes second_address ++ (binds 2 2 second_address (codes "a"), 2) ∷ []

pub record WorkedEqualIds : Type 0 where
  pub at_two_addresses : reply_after default_config (two_nodes second_address) (binds 2 2 second_address (codes "a")) 2 ≡ Reply.duplicate (closing (codes "a") 2 second_address true)
  pub at_one_address : reply_after default_config (two_nodes first_address) (binds 2 2 first_address (codes "a")) 2 ≡ Reply.duplicate (closing (codes "a") 2 first_address false)
  pub still_first : reply_after default_config after_duplicate (Call.lookup (codes "a")) 2 ≡ Reply.found (found.At (slot 1) first_address 1)
  pub waits_again : place (run default_config [] after_duplicate) 2 ≡ waiting
  pub node_barred : is_barred (run default_config [] after_duplicate) 2 2 ≡ true
  pub other_binding : reply_after default_config after_duplicate (Call.touch (codes "a") 2) 2 ≡ Reply.no_session
  pub own_binding : reply_after default_config after_duplicate (Call.touch (codes "a") 1) 2 ≡ Reply.touched
  -- a node is removed while a start is on its way, and another at its address runs a session of
  -- that id
  pub gone_at_one_address : reply_after default_config
      ((first_node, 0) ∷ (wants chrome, 0) ∷ (Call.dispatch, 0) ∷ (Call.remove 1, 1) ∷ (second_node first_address, 1) ∷ (wants chrome, 1) ∷ (Call.dispatch, 1)
      ∷ (binds 2 2 first_address (codes "a"), 2) ∷ []) (binds 1 1 first_address (codes "a")) 3 ≡ Reply.node_gone (closing (codes "a") 1 first_address false)
  pub is_legal : legal default_config (run default_config [] after_duplicate) ≡ true

-- capabilities that do not meet what was wanted, at the only node
pub record WorkedMismatch : Type 0 where
  pub not_met : reply_after default_config (one_queued ++ (Call.dispatch, 0) ∷ []) (Call.bind (reservation 1 1 first_address chrome) (codes "a") (named firefox)) 1
      ≡ Reply.mismatch (closing (codes "a") 1 first_address true)
  pub tells_why : reply_after default_config (one_queued ++ (Call.dispatch, 0) ∷ (Call.bind (reservation 1 1 first_address chrome) (codes "a") (named firefox), 1) ∷ []) (Call.poll (ticket 1 300_000)) 2
      ≡ Reply.settled (outcome.StartFailed why.Mismatch)

-- a number of no registered node, a name that is taken, one that a removal frees, and beats that
-- tell a name
abbrev pub both_named : List (Call × ℕ)
both_named = (first_node, 0) ∷ (second_node second_address, 0) ∷ []

pub record WorkedNodes : Type 0 where
  pub no_beat : reply_after default_config ((first_node, 0) ∷ []) (Call.beat 9 None) 0 ≡ Reply.no_node
  pub no_drain : reply_after default_config ((first_node, 0) ∷ []) (Call.drain 9) 0 ≡ Reply.no_node
  pub no_removal : reply_after default_config ((first_node, 0) ∷ []) (Call.remove 9) 0 ≡ Reply.no_node
  pub name_taken : reply_after default_config ((first_node, 0) ∷ []) first_node 0 ≡ Reply.name_taken 1
  pub removed : reply_after default_config ((first_node, 0) ∷ []) (Call.remove 1) 0 ≡ Reply.removed
  pub removed_once : reply_after default_config ((first_node, 0) ∷ (Call.remove 1, 0) ∷ []) (Call.remove 1) 0 ≡ Reply.no_node
  pub name_freed : reply_after default_config ((first_node, 0) ∷ (Call.remove 1, 0) ∷ []) first_node 0 ≡ Reply.registered 2
  -- nodes "a" and "b" are 1 and 2: a beat under a name is the node's own where number and name are
  -- one node's, and else no node is heard
  pub own_beat : reply_after default_config both_named (Call.beat 1 (Some (codes "a"))) 1 ≡ Reply.beaten
  pub beat_of_the_other : reply_after default_config both_named (Call.beat 1 (Some (codes "b"))) 1 ≡ Reply.no_node
  pub beat_of_nobody : reply_after default_config both_named (Call.beat 1 (Some (codes "c"))) 1 ≡ Reply.no_node
  pub beat_of_no_number : reply_after default_config both_named (Call.beat 3 (Some (codes "a"))) 1 ≡ Reply.no_node
  pub beat_after_removal : reply_after default_config (both_named ++ (Call.remove 1, 0) ∷ []) (Call.beat 1 (Some (codes "a"))) 1 ≡ Reply.no_node
  pub other_beat_is_not_heard : run default_config [] (both_named ++ (Call.beat 1 (Some (codes "b")), 1) ∷ []) ≡ run default_config [] both_named

-- a node of two slots that lapses with a session and a reservation: at the moment, and not a
-- millisecond before
abbrev pub two_slots : List (Call × ℕ)
two_slots =
    (Call.register (node (codes "a") first_address chrome 2), 0) ∷ (wants chrome, 0) ∷ (Call.dispatch, 0)
    ∷ (binds 1 1 first_address (codes "a"), 0) ∷ (wants chrome, 0) ∷ (Call.dispatch, 0) ∷ []

abbrev pub second_slot : Reservation
second_slot = record { request = 2; slot = record { node = 1; index = 1 }; choice = 0; address = first_address; wanted = named chrome }

abbrev pub lapsed : List (Call × ℕ)
lapsed = two_slots ++ (Call.sweep, 240_000) ∷ []

pub record WorkedLapse : Type 0 where
  pub before_it : reply_after default_config two_slots Call.sweep 239_999 ≡ Reply.swept 0 1 0 0
  pub at_it : reply_after default_config two_slots Call.sweep 240_000 ≡ Reply.swept 1 0 0 0
  pub after_a_beat : reply_after default_config (two_slots ++ (Call.beat 1 None, 1) ∷ []) Call.sweep 240_000 ≡ Reply.swept 0 1 0 0
  pub not_permitted_before : and_then default_config two_slots 0 (change.Lapsed 1 (time 239_999)) ≡ false
  pub session_gone : reply_after default_config lapsed (Call.lookup (codes "a")) 240_000 ≡ Reply.found found.NoSession
  pub node_gone : reply_after default_config lapsed (Call.bind second_slot (codes "b") (named chrome)) 240_001
      ≡ Reply.node_gone (record { session = codes "b"; slot = record { node = 1; index = 1 }; address = first_address; quit = true })
  pub name_freed : reply_after default_config lapsed (Call.register (node (codes "a") first_address chrome 2)) 240_001 ≡ Reply.registered 2
  pub is_legal : legal default_config (run default_config [] (lapsed ++ (Call.bind second_slot (codes "b") (named chrome), 240_001) ∷ [])) ≡ true

-- the published map's changes, the newest first: a lapse takes the sessions of a node away by the
-- slots' order
abbrev pub both_busy : List (Call × ℕ)
both_busy = two_slots ++ (Call.bind second_slot (codes "b") (named chrome), 0) ∷ []

abbrev pub put_first : Item
put_first = put (record { session = codes "a"; slot = slot 1; address = first_address; binding = 1 })

abbrev pub put_second : Item
put_second = put (record { session = codes "b"; slot = record { node = 1; index = 1 }; address = first_address; binding = 2 })

pub record WorkedPublishing : Type 0 where
  pub puts : changes (run default_config [] both_busy) ≡ put_second ∷ put_first ∷ []
  pub ended : changes (run default_config [] (both_busy ++ (Call.end (codes "a") 1, 1) ∷ [])) ≡ removal (codes "a") ∷ put_second ∷ put_first ∷ []
  pub lapsed : changes (run default_config [] (both_busy ++ (Call.sweep, 240_000) ∷ [])) ≡ removal (codes "b") ∷ removal (codes "a") ∷ put_second ∷ put_first ∷ []

-- a session that is idle since its last touch: at the moment, and not a millisecond before
abbrev pub touched : List (Call × ℕ)
touched = (first_node, 0) ∷ (wants chrome, 0) ∷ (Call.dispatch, 0) ∷ (binds 1 1 first_address (codes "a"), 0) ∷ (Call.touch (codes "a") 1, 100_000) ∷ []

pub record WorkedIdle : Type 0 where
  pub before_it : reply_after default_config touched Call.expire 399_999 ≡ Reply.nothing
  pub at_it : reply_after default_config touched Call.expire 400_000 ≡ Reply.expired (closing (codes "a") 1 first_address true)
  pub not_permitted_before : and_then default_config touched 0 (change.Ended 1 cause.Idle (time 399_999)) ≡ false
  pub quit_any_time : and_then default_config touched 0 (change.Ended 1 cause.Quit (time 100_000)) ≡ true
  -- of two that are idle, the one of the least binding, whichever was touched last
  pub least_binding : reply_after default_config (two_nodes second_address ++ (binds 2 2 second_address (codes "b"), 1) ∷ (Call.touch (codes "a") 1, 10) ∷ []) Call.expire 400_000
      ≡ Reply.expired (closing (codes "a") 1 first_address true)

-- a draining node takes no new session, keeps the ones it has, and is removed once its slots are
-- free
abbrev pub draining : List (Call × ℕ)
draining =
    (Call.register (node (codes "a") first_address chrome 2), 0) ∷ (wants chrome, 0) ∷ (Call.dispatch, 0)
    ∷ (binds 1 1 first_address (codes "a"), 0) ∷ (Call.drain 1, 1) ∷ (wants chrome, 1) ∷ []

abbrev pub drained : List (Call × ℕ)
drained = draining ++ (Call.end (codes "a") 1, 3) ∷ (Call.freed (closing (codes "a") 1 first_address true), 3) ∷ []

abbrev pub viewed_with : Standing → View
viewed_with standing = record {
  ready = false;
  nodes = record { node = 1; registration = node (codes "a") first_address chrome 2; standing = standing; slots = state.Busy (codes "a") ∷ state.Free ∷ [] } ∷ [];
  waiting = record { request = 2; deadline = time 300_001; choices = 1; bytes = 24 } ∷ [];
}

pub record WorkedDrain : Type 0 where
  pub takes_none : reply_after default_config draining Call.dispatch 2 ≡ Reply.nothing
  pub session_goes_on : reply_after default_config draining (Call.touch (codes "a") 1) 2 ≡ Reply.touched
  pub drain_again : reply_after default_config draining (Call.drain 1) 2 ≡ Reply.draining
  pub no_second_entry : length (run default_config [] (draining ++ (Call.drain 1, 2) ∷ [])) ≡ length (run default_config [] draining)
  pub not_removed_yet : reply_after default_config draining Call.sweep 2 ≡ Reply.swept 0 0 0 0
  pub removed : reply_after default_config drained Call.sweep 3 ≡ Reply.swept 0 0 0 1
  pub not_listed : reply_after default_config (drained ++ (Call.sweep, 3) ∷ []) Call.view 3
      ≡ Reply.viewed (record { ready = false; nodes = []; waiting = record { request = 2; deadline = time 300_001; choices = 1; bytes = 24 } ∷ [] })
  pub listed_while_busy : reply_after default_config draining Call.view 2 ≡ Reply.viewed (viewed_with standing.Draining)
  pub listed_though_gone : reply_after default_config (draining ++ (Call.remove 1, 2) ∷ []) Call.view 2 ≡ Reply.viewed (viewed_with standing.Gone)
  pub still_beats : reply_after default_config draining (Call.beat 1 None) 2 ≡ Reply.beaten
  pub ready_when_up : reply_after default_config ((first_node, 0) ∷ []) Call.view 0
      ≡ Reply.viewed (record {
        ready = true;
        nodes = record { node = 1; registration = node (codes "a") first_address chrome 1; standing = standing.Up; slots = state.Free ∷ [] } ∷ [];
        waiting = [];
      })
  pub is_legal : legal default_config (run default_config [] (drained ++ (Call.sweep, 3) ∷ [])) ≡ true

-- of equal nodes, the one whose last reservation is longest ago
abbrev pub both_used : List (Call × ℕ)
both_used =
    two_nodes second_address ++ (binds 2 2 second_address (codes "b"), 1)
    ∷ (Call.end (codes "a") 1, 2) ∷ (Call.freed (closing (codes "a") 1 first_address true), 2)
    ∷ (Call.end (codes "b") 2, 2) ∷ (Call.freed (closing (codes "b") 2 second_address true), 2) ∷ (wants chrome, 3) ∷ []

pub record WorkedRound : Type 0 where
  pub least_number : reply_after default_config ((first_node, 0) ∷ (second_node second_address, 0) ∷ (wants chrome, 0) ∷ []) Call.dispatch 0 ≡ Reply.assigned (reservation 1 1 first_address chrome)
  pub never_reserved : reply_after default_config ((first_node, 0) ∷ (second_node second_address, 0) ∷ (wants chrome, 0) ∷ (wants chrome, 0) ∷ (Call.dispatch, 0) ∷ []) Call.dispatch 0
      ≡ Reply.assigned (reservation 2 2 second_address chrome)
  pub longest_ago : reply_after default_config both_used Call.dispatch 3 ≡ Reply.assigned (reservation 3 1 first_address chrome)
  -- one of four slots in use is less than one of two
  pub least_load : reply_after default_config
      ((Call.register (node (codes "a") first_address chrome 2), 0) ∷ (Call.register (node (codes "b") second_address chrome 4), 0)
      ∷ (wants chrome, 0) ∷ (wants chrome, 0) ∷ (wants chrome, 0) ∷ (Call.dispatch, 0) ∷ (Call.dispatch, 0) ∷ []) Call.dispatch 0
      ≡ Reply.assigned (record { request = 3; slot = record { node = 2; index = 1 }; choice = 0; address = second_address; wanted = named chrome })
  -- two of four are as much as one of two: the last reservation decides
  pub equal_load : reply_after default_config
      ((Call.register (node (codes "a") first_address chrome 2), 0) ∷ (Call.register (node (codes "b") second_address chrome 4), 0)
      ∷ (wants chrome, 0) ∷ (wants chrome, 0) ∷ (wants chrome, 0) ∷ (wants chrome, 0) ∷ (Call.dispatch, 0) ∷ (Call.dispatch, 0) ∷ (Call.dispatch, 0) ∷ []) Call.dispatch 0
      ≡ Reply.assigned (record { request = 4; slot = record { node = 1; index = 1 }; choice = 0; address = first_address; wanted = named chrome })

-- numbers that are spent
pub record WorkedNumbers : Type 0 where
  pub requests : reply_after (record default_config { first_request = 2 ^ 64 - 1 }) [] (Call.enqueue ([] ∷ [])) 0 ≡ Reply.numbers_spent
  pub last_request : reply_after (record default_config { first_request = 2 ^ 64 - 2 }) [] (Call.enqueue ([] ∷ [])) 0 ≡ Reply.queued (ticket (2 ^ 64 - 2) 300_000)
  pub nodes : reply_after (record default_config { first_node = 2 ^ 32 - 1 }) [] first_node 0 ≡ Reply.numbers_spent
  pub last_node : reply_after (record default_config { first_node = 2 ^ 32 - 2 }) [] first_node 0 ≡ Reply.registered (2 ^ 32 - 2)
  -- a deadline stays within the greatest moment
  pub last_moment : reply_after default_config [] (Call.enqueue ([] ∷ [])) (2 ^ 62 - 2) ≡ Reply.queued (ticket 1 (2 ^ 62 - 1))
  pub deadline_reaches_it : deadline_at default_config ([] ∷ []) (2 ^ 62 - 300_001) ≡ 2 ^ 62 - 1
  pub deadline_below_it : deadline_at default_config ([] ∷ []) (2 ^ 62 - 300_002) ≡ 2 ^ 62 - 2
  -- a taken name is told before that numbers are spent, and spent numbers before that nothing
  -- matches
  pub name_before_numbers : reply_after (record default_config { first_node = 2 ^ 32 - 2 }) ((first_node, 0) ∷ []) first_node 0 ≡ Reply.name_taken (2 ^ 32 - 2)
  pub numbers_before_support : reply_after (record default_config { first_request = 2 ^ 64 - 1; reject_unsupported = true }) [] (wants chrome) 0 ≡ Reply.numbers_spent

-- what may not follow: a reservation out of order, a bind after a time-out, a second reservation of
-- a held slot, a failure that is wrongly said to be the last, and another caller's use of a token
pub record WorkedRefusals : Type 0 where
  pub order_kept : and_then default_config ((Call.register (node (codes "a") first_address chrome 2), 0) ∷ (wants chrome, 0) ∷ (wants chrome, 0) ∷ []) 0 (change.Reserved 2 (slot 1) 0 (time 1)) ≡ false
  pub not_bound_late : and_then default_config timed_out 0 (change.Bound 1 (slot 1) (codes "a") (named chrome) (time 300_001)) ≡ false
  pub not_held_twice : and_then default_config (busy_slot ++ (Call.dispatch, 4) ∷ (wants chrome, 4) ∷ []) 0 (change.Reserved 4 (slot 2) 0 (time 5)) ≡ false
  pub not_the_last : and_then default_config (two_nodes second_address) 0 (change.Failed 2 (slot 2) why.BadReply None true (time 2)) ≡ false
  pub not_another_callers : and_then default_config (two_nodes second_address) 1 (change.Failed 2 (slot 2) why.BadReply None false (time 2)) ≡ false
  pub its_callers : and_then default_config (two_nodes second_address) 0 (change.Failed 2 (slot 2) why.BadReply None false (time 2)) ≡ true
  pub not_before_the_clock : and_then default_config (two_nodes second_address) 0 (change.Beaten 1 (time 0)) ≡ false

-- a node of two slots with a session that is silent: it is suspect, takes no new session and keeps
-- its own; a beat brings it back, and after a longer silence it is down
abbrev pub silent : List (Call × ℕ)
silent =
    (Call.register (node (codes "a") first_address chrome 2), 0) ∷ (wants chrome, 0) ∷ (Call.dispatch, 0)
    ∷ (binds 1 1 first_address (codes "a"), 0) ∷ []

abbrev pub suspected : List (Call × ℕ)
suspected = silent ++ (Call.sweep, 120_000) ∷ (wants chrome, 120_000) ∷ []

abbrev pub back : List (Call × ℕ)
back = suspected ++ (Call.beat 1 None, 130_000) ∷ []

abbrev pub suspected_again : List (Call × ℕ)
suspected_again = back ++ (Call.dispatch, 130_000) ∷ (Call.sweep, 250_000) ∷ []

abbrev pub down : List (Call × ℕ)
down = suspected_again ++ (Call.sweep, 370_000) ∷ []

-- it is drained while it is suspect
abbrev pub drained_suspect : List (Call × ℕ)
drained_suspect = silent ++ (Call.sweep, 120_000) ∷ (Call.drain 1, 120_000) ∷ []

abbrev pub shown_as : Standing → View
shown_as standing = record (viewed_with standing) { waiting = [] }

pub record WorkedSuspect : Type 0 where
  pub before_it : reply_after default_config silent Call.sweep 119_999 ≡ Reply.swept 0 0 0 0
  pub at_it : reply_after default_config silent Call.sweep 120_000 ≡ Reply.swept 0 1 0 0
  pub once : reply_after default_config suspected Call.sweep 239_999 ≡ Reply.swept 0 0 0 0
  pub not_permitted_before : and_then default_config silent 0 (change.Suspected 1 (time 119_999)) ≡ false
  pub not_permitted_twice : and_then default_config suspected 0 (change.Suspected 1 (time 130_000)) ≡ false
  pub session_stays : reply_after default_config suspected (Call.lookup (codes "a")) 120_000 ≡ Reply.found (found.At (slot 1) first_address 1)
  pub deadline : reply_after default_config (silent ++ (Call.sweep, 120_000) ∷ []) (wants chrome) 120_000 ≡ Reply.queued (ticket 2 420_000)
  pub takes_none : reply_after default_config suspected Call.dispatch 120_000 ≡ Reply.nothing
  pub not_ready : reply_after default_config suspected (Call.poll (ticket 2 420_000)) 120_000 ≡ Reply.not_yet (ticket 2 420_000)
  pub comes_back : reply_after default_config back Call.dispatch 130_000 ≡ Reply.assigned second_slot
  pub silent_again : reply_after default_config (back ++ (Call.dispatch, 130_000) ∷ []) Call.sweep 250_000 ≡ Reply.swept 0 1 0 0
  pub lapses : reply_after default_config suspected_again Call.sweep 370_000 ≡ Reply.swept 1 0 0 0
  pub session_gone : reply_after default_config down (Call.lookup (codes "a")) 370_000 ≡ Reply.found found.NoSession
  pub node_gone : reply_after default_config down (Call.bind second_slot (codes "b") (named chrome)) 370_000
      ≡ Reply.node_gone (record { session = codes "b"; slot = record { node = 1; index = 1 }; address = first_address; quit = true })
  pub name_freed : reply_after default_config down (Call.register (node (codes "a") first_address chrome 2)) 370_000 ≡ Reply.registered 2
  -- a start that failed is tried again, as long as a suspect node may come back
  pub may_come_back : reply_after default_config (first_start ++ (Call.sweep, 120_000) ∷ []) (fails 1 first_address) 120_000 ≡ Reply.failed_again
  pub drains : reply_after default_config (silent ++ (Call.sweep, 120_000) ∷ []) (Call.drain 1) 120_000 ≡ Reply.draining
  pub shown_suspect : reply_after default_config drained_suspect Call.view 120_000 ≡ Reply.viewed (shown_as standing.Suspect)
  pub shown_draining : reply_after default_config (drained_suspect ++ (Call.beat 1 None, 120_001) ∷ []) Call.view 120_001 ≡ Reply.viewed (shown_as standing.Draining)
  pub is_legal : legal default_config (run default_config [] (down ++ (Call.bind second_slot (codes "b") (named chrome), 370_000) ∷ [])) ≡ true
  pub drain_is_legal : legal default_config (run default_config [] (drained_suspect ++ (Call.beat 1 None, 120_001) ∷ [])) ≡ true

-- a node that drains after one session
abbrev pub for_one : List (Call × ℕ)
for_one =
    (Call.register (record (node (codes "a") first_address chrome 2) { drain_after = Some 1 }), 0)
    ∷ (wants chrome, 0) ∷ (wants chrome, 0) ∷ []

abbrev pub one_held : List (Call × ℕ)
one_held = for_one ++ (Call.dispatch, 0) ∷ []

abbrev pub one_bound : List (Call × ℕ)
one_bound = one_held ++ (binds 1 1 first_address (codes "a"), 1) ∷ []

abbrev pub one_ended : List (Call × ℕ)
one_ended = one_bound ++ (Call.end (codes "a") 1, 2) ∷ (Call.freed (closing (codes "a") 1 first_address true), 2) ∷ []

pub record WorkedCount : Type 0 where
  pub first_gets_it : reply_after default_config for_one Call.dispatch 0 ≡ Reply.assigned (reservation 1 1 first_address chrome)
  pub held_one_counts : reply_after default_config one_held Call.dispatch 0 ≡ Reply.nothing
  pub is_bound : reply_after default_config one_held (binds 1 1 first_address (codes "a")) 1 ≡ Reply.bound 1
  pub drains : (hub default_config (run default_config [] one_held) 0 (binds 1 1 first_address (codes "a")) 1).changes
      ≡ change.Bound 1 (slot 1) (codes "a") (named chrome) (time 1) ∷ change.Draining 1 (time 1) ∷ []
  pub bound_one_counts : reply_after default_config one_ended Call.dispatch 2 ≡ Reply.nothing
  pub removed : reply_after default_config one_ended Call.sweep 2 ≡ Reply.swept 0 0 0 1
  -- a start that fails, with a session of the node or without one, leaves the count to the next
  -- request
  pub next_after_failure : reply_after default_config (one_held ++ (fails 1 first_address, 1) ∷ []) Call.dispatch 1
      ≡ Reply.assigned (reservation 2 1 first_address chrome)
  pub next_after_orphan : reply_after default_config (one_held ++ (Call.bind (reservation 1 1 first_address chrome) (codes "a") (named firefox), 1) ∷ []) Call.dispatch 1
      ≡ Reply.assigned second_slot
  -- a node that was drained by hand is not drained again
  pub drained_before : (hub default_config (run default_config [] (one_held ++ (Call.drain 1, 0) ∷ [])) 0 (binds 1 1 first_address (codes "a")) 1).changes
      ≡ change.Bound 1 (slot 1) (codes "a") (named chrome) (time 1) ∷ []
  pub is_legal : legal default_config (run default_config [] (one_ended ++ (Call.sweep, 2) ∷ [])) ≡ true

-- the time that a request asks to wait
abbrev pub asking : CapValue → List Cap
asking value = record { name = codes "grid:queueTimeout"; value = value } ∷ []

abbrev pub waits : List (List Cap) → ℕ
waits = queue_time default_config

pub record WorkedQueueTime : Type 0 where
  pub asked : waits (asking (value.Raw (codes "2000")) ∷ []) ≡ 2_000
  pub least : waits (asking (value.Raw (codes "1000")) ∷ []) ≡ 1_000
  pub below_least : waits (asking (value.Raw (codes "999")) ∷ []) ≡ 300_000
  pub most : waits (asking (value.Raw (codes "86400000")) ∷ []) ≡ 86_400_000
  pub above_most : waits (asking (value.Raw (codes "86400001")) ∷ []) ≡ 300_000
  pub no_text : waits (asking (value.Text (codes "2000")) ∷ []) ≡ 300_000
  pub no_fraction : waits (asking (value.Raw (codes "2000.0")) ∷ []) ≡ 300_000
  pub behind_others : waits ((named chrome ++ asking (value.Raw (codes "2000"))) ∷ []) ≡ 2_000
  pub first_list : waits (asking (value.Raw (codes "2000")) ∷ asking (value.Raw (codes "3000")) ∷ []) ≡ 2_000
  pub first_that_asks : waits (named chrome ∷ asking (value.Raw (codes "999")) ∷ asking (value.Raw (codes "3000")) ∷ []) ≡ 3_000
  pub deadline : reply_after default_config [] (Call.enqueue (asking (value.Raw (codes "2000")) ∷ [])) 10 ≡ Reply.queued (ticket 1 2_010)
