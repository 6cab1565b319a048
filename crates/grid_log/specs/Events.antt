-- Which events an entry tells of to an operator, after the history before it.
use Rattle.std.specs.Prelude.{ℕ, ◌-◌, Bool, true, false, List, [], ◌∷◌, ◌++◌, map, filter, find, Option, None, Some, option_map, unwrap_or, codes, if◌then◌else◌}
use Rattle.std.specs.List.{slice_get}
use Rattle.grid_types.specs.declared.capabilities.Cap.{Cap}
use Rattle.grid_types.specs.declared.capabilities.Registration.{Registration}
use Rattle.grid_types.specs.declared.config.HubConfig.{HubConfig}
use Rattle.grid_types.specs.declared.entry.Entry.{Entry}
use Rattle.grid_types.specs.declared.entry.Change.{Change}
use Rattle.grid_types.specs.declared.entry.Change.TheVariants as change
use Rattle.grid_types.specs.declared.entry.EndCause.{EndCause}
use Rattle.grid_types.specs.declared.entry.EndCause.TheVariants as cause
use Rattle.grid_types.specs.declared.entry.FailWhy.{FailWhy}
use Rattle.grid_types.specs.declared.entry.FailWhy.TheVariants as why
use Rattle.grid_types.specs.declared.names.SlotId.{SlotId}
use Rattle.grid_types.specs.Capabilities.{text_at}
use Rattle.grid_types.specs.Lists.{has}
use Rattle.grid_log.specs.declared.form.Form.{Form}
use Rattle.grid_log.specs.declared.rows.SessionRow.{SessionRow}
use Rattle.grid_log.specs.declared.telling.TheConstants.{BACK, DRAINING, LAPSED, REMOVED, SUSPECT}
use Rattle.grid_log.specs.Past.{Past, is_clearing, is_of_binding, name_in, no_past, past_of, past_on, queued_in, runs_on, slots_in}
use Rattle.grid_log.specs.Facts.{Event, first_line, lines, name, name_if, number, number_if, word}
use Rattle.grid_log.specs.Queue.{room_events}

-- the name and the version of a browser that capabilities tell
abbrev pub browser_in : List Cap → Option (List ℕ)
browser_in = text_at (codes "browserName")

abbrev pub version_in : List Cap → Option (List ℕ)
version_in = text_at (codes "browserVersion")

-- how many milliseconds lie between a moment, where there is one, and a later one
abbrev pub since : ℕ → Option ℕ → Option ℕ
since now = option_map (λ at. now - at)

-- ---- nodes

abbrev pub registered_event : ℕ → Registration → ℕ → Event
registered_event node registration at = record {
  at = at;
  what = codes "node registered";
  facts =
      number (codes "node") node
      ∷ name (codes "name") registration.name
      ∷ name (codes "address") registration.address
      ∷ number (codes "slots") (slots_in registration.groups)
      ∷ [];
}

-- what happened to a node, which may have a name, and what this means for its sessions
abbrev pub node_event : List ℕ → List ℕ → ℕ → Option (List ℕ) → ℕ → Event
node_event what meaning node named at = record {
  at = at;
  what = what;
  facts =
      number (codes "node") node
      ∷ name_if (codes "name") named
      ∷ name (codes "meaning") meaning
      ∷ [];
}

abbrev pub suspect_event : ℕ → Option (List ℕ) → ℕ → Event
suspect_event = node_event (codes "node suspect") SUSPECT.now

abbrev pub back_event : ℕ → Option (List ℕ) → ℕ → Event
back_event = node_event (codes "node back") BACK.now

abbrev pub draining_event : ℕ → Option (List ℕ) → ℕ → Event
draining_event = node_event (codes "node draining") DRAINING.now

abbrev pub removed_event : ℕ → Option (List ℕ) → ℕ → Event
removed_event = node_event (codes "node removed") REMOVED.now

abbrev pub lapsed_event : ℕ → Option (List ℕ) → ℕ → Event
lapsed_event = node_event (codes "node lapsed") LAPSED.now

-- ---- requests

-- a request that was queued, and the browser that its first choice asks for
abbrev pub queued_event : ℕ → Option (List ℕ) → ℕ → ℕ → Event
queued_event request browser deadline at = record {
  at = at;
  what = codes "request queued";
  facts =
      number (codes "request") request
      ∷ name_if (codes "browser") browser
      ∷ number (codes "deadline") deadline
      ∷ [];
}

-- what happened to a request that was queued at a moment, where that is known
abbrev pub request_event : List ℕ → ℕ → Option ℕ → ℕ → Event
request_event what request queued at = record {
  at = at;
  what = what;
  facts =
      number (codes "request") request ∷ number_if (codes "waited_ms") (since at queued) ∷ [];
}

-- why a start failed, in words
abbrev pub why_words : FailWhy → List ℕ
why_words (why.NodeRefused words) = codes "the node refused"
why_words why.Unreachable = codes "the node did not answer"
why_words why.NotHttp = codes "the node's answer is not HTTP"
why_words why.BadReply = codes "the node's answer names no session"
why_words why.Mismatch = codes "the node's session has other capabilities than were asked for"
why_words why.NodeGone = codes "the node is gone"
why_words why.Duplicate = codes "the node's session has the id of one that runs"
why_words why.Late = codes "the request was settled before"
why_words why.NoMemory = codes "the hub found no memory"

-- what the node said to it
abbrev pub node_words : FailWhy → Option (List ℕ)
node_words (why.NodeRefused words) = Some words
node_words other = None

-- what a failed start on a node, which may have a name, means for its request
abbrev pub failed_event :
    List ℕ → ℕ → SlotId → Option (List ℕ) → FailWhy → Option ℕ → ℕ → Event
failed_event what request slot named reason queued at = record {
  at = at;
  what = what;
  facts =
      number (codes "request") request
      ∷ number (codes "node") slot.node
      ∷ number (codes "slot") slot.index
      ∷ name_if (codes "name") named
      ∷ name (codes "why") (why_words reason)
      ∷ name_if (codes "message") (node_words reason)
      ∷ number_if (codes "waited_ms") (since at queued)
      ∷ [];
}

-- ---- sessions

-- a session that was created on a node, which may have a name, for a request that was queued at a moment, where that is known
abbrev pub created_event :
    ℕ → SlotId → List ℕ → List Cap → Option (List ℕ) → Option ℕ → ℕ → Event
created_event request slot session capabilities named queued at = record {
  at = at;
  what = codes "session created";
  facts =
      word (codes "session") session
      ∷ number (codes "request") request
      ∷ number (codes "node") slot.node
      ∷ number (codes "slot") slot.index
      ∷ name_if (codes "name") named
      ∷ number_if (codes "waited_ms") (since at queued)
      ∷ name_if (codes "browser") (browser_in capabilities)
      ∷ name_if (codes "version") (version_in capabilities)
      ∷ [];
}

-- the end of a session that ran
abbrev pub ended_event : List ℕ → ℕ → SessionRow → Event
ended_event by at row = record {
  at = at;
  what = codes "session ended";
  facts =
      word (codes "session") row.session
      ∷ number (codes "request") row.binding
      ∷ number (codes "node") row.slot.node
      ∷ number (codes "slot") row.slot.index
      ∷ word (codes "cause") by
      ∷ number (codes "lasted_ms") (at - row.at.0)
      ∷ [];
}

-- who ended it
abbrev pub cause_word : EndCause → List ℕ
cause_word cause.Quit = codes "client"
cause_word cause.Idle = codes "idle"

-- the end of a session by a binding; nothing is told of one that does not run
abbrev pub ended_events : List ℕ → ℕ → Option SessionRow → List Event
ended_events by at None = []
ended_events by at (Some row) = ended_event by at row ∷ []

-- ---- changes

-- a sign of life is told of a node that was suspect
abbrev pub beaten_events : Past → ℕ → ℕ → List Event
beaten_events past node at =
    if has node past.suspects
    then back_event node (name_in past.nodes node) at ∷ []
    else []

-- the ends of the sessions that run on a node that lapses
abbrev pub ends_on : ℕ → ℕ → List SessionRow → List Event
ends_on node at rows = map (ended_event (codes "node") at) (filter (runs_on node) rows)

-- a node lapses, and each session on it ends
abbrev pub lapsed_events : Past → ℕ → ℕ → List Event
lapsed_events past node at =
    lapsed_event node (name_in past.nodes node) at
    ∷ ends_on node at past.sessions

-- the words for a failed start: it was the request's last one, or other nodes are tried
abbrev pub failed_words : Bool → List ℕ
failed_words true = codes "request refused"
failed_words false = codes "start failed"

-- an outcome is told as withdrawn where its taker cleared the request right before
abbrev pub taken_events : Past → ℕ → ℕ → ℕ → List Event
taken_events past caller request at =
    if is_clearing caller request past.cleared
    then request_event (codes "request withdrawn") request None at ∷ []
    else []

-- the events of a change of a caller, after what is past
abbrev pub change_events : Past → ℕ → Change → List Event
change_events past caller (change.Registered node registration at) =
    registered_event node registration at.0 ∷ []
change_events past caller (change.Beaten node at) = beaten_events past node at.0
change_events past caller (change.Suspected node at) =
    suspect_event node (name_in past.nodes node) at.0 ∷ []
change_events past caller (change.Draining node at) =
    draining_event node (name_in past.nodes node) at.0 ∷ []
change_events past caller (change.Removed node at) =
    removed_event node (name_in past.nodes node) at.0 ∷ []
change_events past caller (change.Lapsed node at) = lapsed_events past node at.0
change_events past caller (change.Queued request choices deadline at) =
    queued_event request (browser_in (unwrap_or (slice_get choices 0) [])) deadline.0 at.0 ∷ []
change_events past caller (change.Failed request slot reason orphan last at) =
    failed_event (failed_words last) request slot (name_in past.nodes slot.node) reason
    (queued_in past.unsettled request) at.0
    ∷ []
change_events past caller (change.TimedOut request at) =
    request_event (codes "request timed out") request (queued_in past.unsettled request) at.0
    ∷ []
change_events past caller (change.Cleared request at) =
    request_event (codes "request cleared") request (queued_in past.unsettled request) at.0 ∷ []
change_events past caller (change.Taken request at) = taken_events past caller request at.0
change_events past caller (change.Bound request slot session capabilities at) =
    created_event request slot session capabilities (name_in past.nodes slot.node)
    (queued_in past.unsettled request) at.0
    ∷ []
change_events past caller (change.Ended binding ending at) =
    ended_events (cause_word ending) at.0 (find (is_of_binding binding) past.sessions)
change_events past caller other = []

-- the events of an entry of a hub that was set up so, after what is past
abbrev pub entry_events : HubConfig → Past → Entry → List Event
entry_events c past entry = change_events past entry.caller entry.change ++ room_events c past entry

-- the events of an entry after a history
abbrev pub events : HubConfig → List Entry → Entry → List Event
events c history entry = entry_events c (past_of history) entry

-- the bytes with the lines of a history behind them, those of each entry after what is past and the entries before it, in order
abbrev pub told_behind : List ℕ → Form → HubConfig → Past → List Entry → List ℕ
told_behind bytes form c past [] = bytes
told_behind bytes form c past (entry ∷ history) =
    told_behind bytes form c past history
    ++ lines form (entry_events c (past_on past history) entry)

-- a log that begins behind what is past: the first line, and the lines of a history
abbrev pub log_on : Form → HubConfig → Past → List Entry → List ℕ
log_on form c past history = told_behind (first_line form) form c past history

-- the log of a history
abbrev pub log_of : Form → HubConfig → List Entry → List ℕ
log_of form c history = log_on form c no_past history
