-- When a hub's queue becomes full and when it has room again, and what is told of that.
use Rattle.std.specs.Prelude.{ℕ, Bool, true, false, nat_le, List, [], ◌∷◌, length, unwrap_or, codes}
use Rattle.grid_types.specs.declared.config.HubConfig.{HubConfig}
use Rattle.grid_types.specs.declared.entry.Entry.{Entry}
use Rattle.grid_types.specs.History.{moment_of}
use Rattle.grid_log.specs.Past.{Past, past_after}
use Rattle.grid_log.specs.Facts.{Event, name, number}

-- what happened to a queue that takes so many requests, and what this means for those who ask
abbrev pub queue_event : List ℕ → List ℕ → ℕ → ℕ → ℕ → Event
queue_event what meaning requests limit at = record {
  at = at;
  what = what;
  facts =
      number (codes "requests") requests
      ∷ number (codes "limit") limit
      ∷ name (codes "meaning") meaning
      ∷ [];
}

-- a queue was full, and is full
abbrev pub queue_told : Bool → Bool → ℕ → ℕ → ℕ → List Event
queue_told false true requests limit at =
    queue_event (codes "queue full") (codes "further requests are refused") requests limit at ∷ []
queue_told true false requests limit at =
    queue_event (codes "queue has room") (codes "requests are taken again") requests limit at ∷ []
queue_told was is requests limit at = []

-- so many requests were not settled before a moment, and so many are; the queue takes so many
abbrev pub queue_events : ℕ → ℕ → ℕ → ℕ → List Event
queue_events limit before requests at =
    queue_told (nat_le limit before) (nat_le limit requests) requests limit at

-- what an entry tells of the queue of a hub that was set up so, after what is past
abbrev pub room_events : HubConfig → Past → Entry → List Event
room_events c past entry =
    queue_events c.queue_requests (length past.unsettled) (length (past_after past entry).unsettled)
    (unwrap_or (moment_of entry.change) 0)
