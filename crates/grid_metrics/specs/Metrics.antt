-- What the metrics of a history are.
use Rattle.std.specs.Prelude.{ℕ, List, [], ◌∷◌, length, codes}
use Rattle.grid_types.specs.declared.entry.Entry.{Entry}
use Rattle.grid_farm.specs.declared.counts.Counts.{Counts}
use Rattle.grid_farm.specs.declared.counts.NodeCounts.{NodeCounts}
use Rattle.grid_farm.specs.declared.counts.RequestCounts.{RequestCounts}
use Rattle.grid_farm.specs.declared.counts.SessionCounts.{SessionCounts}
use Rattle.grid_farm.specs.declared.counts.WaitCounts.{WaitCounts}
use Rattle.grid_farm.specs.declared.gauges.NodeStates.{NodeStates}
use Rattle.grid_farm.specs.declared.gauges.SlotStates.{SlotStates}
use Rattle.grid_farm.specs.Farms.{Farm, farm_of}
use Rattle.grid_farm.specs.Gauges.{nodes_in_states, slots_in_states, waiting_count}
use Rattle.grid_metrics.specs.Rows.{Row, family, series, single, time, with_rows}

abbrev pub session_rows : SessionCounts → List Row
session_rows counts =
    single (codes "counter") (codes "grid_sessions_created_total")
    (codes "Sessions that were created.") counts.created
    ∷ family (codes "counter") (codes "grid_sessions_ended_total")
    (codes "Sessions that have ended: by their client, idle, or with their node.")
    ∷ series (codes "grid_sessions_ended_total{cause=\"quit\"}") counts.quit
    ∷ series (codes "grid_sessions_ended_total{cause=\"idle\"}") counts.idle
    ∷ series (codes "grid_sessions_ended_total{cause=\"node\"}") counts.with_node
    ∷ single (codes "counter") (codes "grid_starts_failed_total")
    (codes "Starts of a session at a node that failed.") counts.failed
    ∷ []

abbrev pub request_rows : RequestCounts → List Row
request_rows counts =
    single (codes "counter") (codes "grid_requests_queued_total")
    (codes "Requests for a session that were queued.") counts.queued
    ∷ single (codes "counter") (codes "grid_requests_timed_out_total")
    (codes "Requests whose deadline came first.") counts.timed_out
    ∷ single (codes "counter") (codes "grid_requests_cleared_total")
    (codes "Requests that were cleared from the queue, also by who asked.") counts.cleared
    ∷ single (codes "counter") (codes "grid_requests_withdrawn_total")
    (codes "Requests that were cleared by who asked.") counts.withdrawn
    ∷ single (codes "counter") (codes "grid_requests_refused_total")
    (codes "Requests whose last start failed.") counts.refused
    ∷ []

abbrev pub node_rows : NodeCounts → List Row
node_rows counts =
    single (codes "counter") (codes "grid_nodes_registered_total")
    (codes "Registrations of nodes.") counts.registered
    ∷ single (codes "counter") (codes "grid_nodes_suspected_total")
    (codes "Nodes that were silent for so long that they take no session.") counts.suspected
    ∷ single (codes "counter") (codes "grid_nodes_back_total")
    (codes "Suspect nodes that gave a sign of life.") counts.back
    ∷ single (codes "counter") (codes "grid_nodes_draining_total")
    (codes "Nodes that take no new session from then on.") counts.draining
    ∷ single (codes "counter") (codes "grid_nodes_removed_total")
    (codes "Nodes that were removed.") counts.removed
    ∷ single (codes "counter") (codes "grid_nodes_lapsed_total")
    (codes "Nodes that were silent for too long.") counts.lapsed
    ∷ []

abbrev pub bucket_rows : WaitCounts → List Row
bucket_rows counts =
    family (codes "histogram") (codes "grid_session_wait_seconds")
    (codes "How long the requests of created sessions had waited.")
    ∷ series (codes "grid_session_wait_seconds_bucket{le=\"0.1\"}") counts.within_100
    ∷ series (codes "grid_session_wait_seconds_bucket{le=\"0.5\"}") counts.within_500
    ∷ series (codes "grid_session_wait_seconds_bucket{le=\"1\"}") counts.within_1000
    ∷ series (codes "grid_session_wait_seconds_bucket{le=\"5\"}") counts.within_5000
    ∷ series (codes "grid_session_wait_seconds_bucket{le=\"15\"}") counts.within_15000
    ∷ series (codes "grid_session_wait_seconds_bucket{le=\"60\"}") counts.within_60000
    ∷ series (codes "grid_session_wait_seconds_bucket{le=\"300\"}") counts.within_300000
    ∷ []

abbrev pub wait_rows : WaitCounts → List Row
wait_rows counts =
    series (codes "grid_session_wait_seconds_bucket{le=\"+Inf\"}") counts.count
    ∷ time (codes "grid_session_wait_seconds_sum") counts.sum_ms
    ∷ series (codes "grid_session_wait_seconds_count") counts.count
    ∷ []

abbrev pub node_state_rows : NodeStates → List Row
node_state_rows states =
    family (codes "gauge") (codes "grid_nodes")
    (codes "Registered nodes by their state.")
    ∷ series (codes "grid_nodes{state=\"up\"}") states.up
    ∷ series (codes "grid_nodes{state=\"suspect\"}") states.suspect
    ∷ series (codes "grid_nodes{state=\"draining\"}") states.draining
    ∷ []

abbrev pub slot_state_rows : SlotStates → List Row
slot_state_rows states =
    family (codes "gauge") (codes "grid_slots")
    (codes "Slots by their state.")
    ∷ series (codes "grid_slots{state=\"free\"}") states.free
    ∷ series (codes "grid_slots{state=\"starting\"}") states.starting
    ∷ series (codes "grid_slots{state=\"busy\"}") states.busy
    ∷ series (codes "grid_slots{state=\"closing\"}") states.closing
    ∷ []

abbrev pub level_rows : ℕ → ℕ → ℕ → ℕ → List Row
level_rows sessions waiting entries at =
    single (codes "gauge") (codes "grid_sessions")
    (codes "Sessions that run.") sessions
    ∷ single (codes "gauge") (codes "grid_queue_waiting")
    (codes "Requests that wait for a slot.") waiting
    ∷ single (codes "counter") (codes "grid_journal_entries_total")
    (codes "Entries of the journal.") entries
    ∷ family (codes "gauge") (codes "grid_last_entry_seconds")
    (codes "The moment of the last entry, since the hub's clock began.")
    ∷ time (codes "grid_last_entry_seconds") at
    ∷ []

-- the bytes with the counts of nodes, requests and sessions behind them
abbrev pub count_rows : List ℕ → Counts → List ℕ
count_rows bytes counts =
    with_rows
    (with_rows (with_rows bytes (session_rows counts.sessions)) (request_rows counts.requests))
    (node_rows counts.nodes)

-- with the waits
abbrev pub histogram_rows : List ℕ → WaitCounts → List ℕ
histogram_rows bytes counts = with_rows (with_rows bytes (bucket_rows counts)) (wait_rows counts)

-- with what is there now
abbrev pub gauge_rows : List ℕ → Farm → List ℕ
gauge_rows bytes farm =
    with_rows
    (with_rows
    (with_rows bytes (node_state_rows (nodes_in_states farm)))
    (slot_state_rows (slots_in_states farm)))
    (level_rows (length farm.past.sessions) (waiting_count farm) farm.counts.entries farm.at)

-- the metrics of what is known of a farm
abbrev pub metrics : Farm → List ℕ
metrics farm = gauge_rows (histogram_rows (count_rows [] farm.counts) farm.counts.waits) farm

-- the metrics of a history
abbrev pub metrics_of : List Entry → List ℕ
metrics_of history = metrics (farm_of history)
