-- What it is for a table of live sessions to stand for a history.
use Rattle.std.specs.Prelude.{◌≡◌, ℕ, ◌-◌, ◌≤◌, Bool, true, false, cond, IsSome, nat_eq, nat_le, nat_lt, min, List, Option, None, Some, option_map, unwrap_or, map, filter}
use Rattle.std.specs.List.{reduce}
use Rattle.std.specs.BTreeMap as tree
use Rattle.indexmap.specs.IndexMap.{get, spare, IsUnique}
use Rattle.grid_types.specs.declared.entry.Entry.{Entry}
use Rattle.grid_types.specs.declared.names.Moment.{Moment}
use Rattle.grid_types.specs.Lists.{kept}
use Rattle.grid_types.specs.declared.names.SlotId.{SlotId}
use Rattle.grid_types.specs.Bindings.{Running, bound_of, bound_slot}
use Rattle.grid_types.specs.Sessions.{is_live, live, active, live_bindings}
use Rattle.session_map.specs.Names.{session_cmp, session_eq}
use Rattle.session_map.specs.declared.live_map.LiveSession.{LiveSession}
use Rattle.session_map.specs.declared.live_map.Place.{Place}
use Rattle.session_map.specs.declared.live_map.LiveMap.{LiveMap}

-- the session of a live binding
abbrev pub running : List Entry → ℕ → Option Running
running H b = kept (λ x. is_live H b) (bound_of H b)

-- what the table keeps under a binding, and under a session's id
abbrev pub session_row : List Entry → ℕ → Option LiveSession
session_row H b = option_map (λ x. record { session = x.session; slot = x.slot; active = record { 0 = active H b } }) (running H b)

abbrev pub place_of : Running → Place
place_of x = record { slot = x.slot; address = x.address; binding = x.binding }

abbrev pub place_row : List Entry → List ℕ → Option Place
place_row H s = option_map place_of (live H s)

-- only a placeholder stands for the session
abbrev pub is_placeholder : Option (List ℕ) → List ℕ → Bool
is_placeholder None s = false
is_placeholder (Some x) s = session_eq x s

-- where the table finds a session. A placeholder is passed over
abbrev pub place_in : LiveMap → List ℕ → Option Place
place_in t s = cond (is_placeholder t.placeholder s) None (tree.get session_cmp t.places s)

-- the binding is live, its session runs in the slot, and it was used last at the moment
pub record RunsSince (H : List Entry) (b : ℕ) (slot : SlotId) (used : Moment) : Type 0 where
  pub live_now : is_live H b ≡ true
  pub runs_in : bound_slot H b ≡ Some slot
  pub used_at : used.0 ≡ active H b

-- no session was used last before `quiet_since`
abbrev pub Quiet : LiveMap → Type 0
Quiet t = (b : ℕ) (x : LiveSession) → get nat_eq t.sessions b ≡ Some x → t.quiet_since.0 ≤ x.active.0

-- the table keeps the live bindings and the live sessions
pub record Stands (t : LiveMap) (H : List Entry) : Type 0 where
  pub sessions : (b : ℕ) → get nat_eq t.sessions b ≡ session_row H b
  pub places : (s : List ℕ) → place_in t s ≡ place_row H s
  pub quiet : Quiet t
  pub bindings_differ : IsUnique nat_eq t.sessions
  pub in_order : tree.IsOrdered session_cmp t.places

-- the earliest of the moments at which the sessions were used last
abbrev pub earliest_use : LiveMap → Option ℕ
earliest_use t = reduce min (map (λ e. e.1.active.0) t.sessions.entries)

-- what is noted tells that no session has been idle for so many milliseconds
abbrev pub is_quiet : LiveMap → ℕ → ℕ → Bool
is_quiet t at idle_ms = nat_lt (at - t.quiet_since.0) idle_ms

-- `quiet_since` once the sessions were looked at, which is where it does not tell that none is idle
abbrev pub noted_use : LiveMap → ℕ → ℕ → ℕ
noted_use t at idle_ms = cond (is_quiet t at idle_ms) t.quiet_since.0 (unwrap_or (earliest_use t) t.quiet_since.0)

-- something stands where the session is found, or will be
abbrev pub HasPlace : LiveMap → List ℕ → Type 0
HasPlace t s = IsSome (tree.get session_cmp t.places s)

-- there is room to bind the session
pub record HasRoomFor (t : LiveMap) (s : List ℕ) : Type 0 where
  pub place : HasPlace t s
  pub row : 1 ≤ spare t.sessions

-- the placeholder is gone, and all is found as before
pub record DropsPlaceholder (old new : LiveMap) : Type 0 where
  pub sessions : new.sessions ≡ old.sessions
  pub quiet : new.quiet_since ≡ old.quiet_since
  pub placeholder : new.placeholder ≡ None
  pub places : (s : List ℕ) → tree.get session_cmp new.places s ≡ place_in old s
  pub in_order : tree.IsOrdered session_cmp old.places → tree.IsOrdered session_cmp new.places

-- no placeholder stands for the session any more, and all else is as before
pub record FillsPlaceholder (old new : LiveMap) (session : List ℕ) : Type 0 where
  pub sessions : new.sessions ≡ old.sessions
  pub quiet : new.quiet_since ≡ old.quiet_since
  pub same_places : new.places ≡ old.places
  pub filled : (s : List ℕ) → is_placeholder new.placeholder s ≡ cond (session_eq session s) false (is_placeholder old.placeholder s)

-- the session's place is gone, and all else is as before
pub record RemovesPlace (old new : LiveMap) (session : List ℕ) : Type 0 where
  pub sessions : new.sessions ≡ old.sessions
  pub quiet : new.quiet_since ≡ old.quiet_since
  pub places : (s : List ℕ) → place_in new s ≡ cond (session_eq session s) None (place_in old s)
  pub in_order : tree.IsOrdered session_cmp new.places

-- the sessions are as before, and `quiet_since` is not after the moment
pub record NotesUse (old new : LiveMap) (at : Moment) : Type 0 where
  pub sessions : new.sessions ≡ old.sessions
  pub placeholder : new.placeholder ≡ old.placeholder
  pub places : new.places ≡ old.places
  pub earlier : new.quiet_since.0 ≤ old.quiet_since.0
  pub noted : new.quiet_since.0 ≤ at.0

-- the live bindings that were used last so many milliseconds ago or more
abbrev pub idle_bindings : List Entry → ℕ → ℕ → List ℕ
idle_bindings H idle_ms at = filter (λ b. nat_le idle_ms (at - active H b)) (live_bindings H)
