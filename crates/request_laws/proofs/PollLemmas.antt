-- What a poll tells of its moment, and what it does where it gives a slot.
use Rattle.std.proofs.Common.{◌≡◌, ℕ, ◌<◌, ◌≤◌, max, Bool, true, false, List, [], ◌∷◌, refl, ap, arith}
use Rattle.std.specs.Prelude.{Option, None, Some, nat_eq, nat_le}
use Rattle.grid_types.specs.declared.config.HubConfig.{HubConfig}
use Rattle.grid_types.specs.declared.entry.Entry.{Entry}
use Rattle.grid_types.specs.declared.entry.Change.{Change}
use Rattle.grid_types.specs.declared.entry.Change.TheVariants as change
use Rattle.grid_types.specs.declared.entry.Outcome.{Outcome}
use Rattle.grid_types.specs.declared.names.Moment.{Moment}
use Rattle.grid_types.specs.declared.capabilities.Cap.{Cap}
use Rattle.grid_types.specs.History.{after, clock}
use Rattle.grid_types.specs.Requests.{deadline_of, outcome_of}
use Rattle.grid_types.specs.Choice.{Assignment, chosen}
use Rattle.grid_types.specs.Permitted.{deadline_at, last_moment, permitted}
use Rattle.grid_types.specs.Legal.{legal}
use Rattle.grid_types.specs.Tokens.{Reservation, Ticket}
use Rattle.grid_types.specs.Calls.{Call, Reply}
use Rattle.grid_types.specs.HubAnswers.{after_call, hub, polled, polled_open, reserves}
use Rattle.grid_types.specs.Tables.{entry}
use Rattle.grid_types.specs.HistoryLaws.{Known, laws}
use Rattle.request_laws.specs.Laws.{IsEarly}

-- a poll that gives a slot
pub record Yours (H : List Entry) (k r m : ℕ) (changes : List Change) (u : Ticket) : Type 0 where
  pub a : Assignment
  pub is_chosen : chosen H m ≡ Some a
  pub request_is : a.request ≡ r
  pub ticket_is : u.request ≡ r
  pub changes_are : changes ≡ reserves m a ∷ []
  pub early : m < deadline_of H r

early_of : (d m : ℕ) → nat_le d m ≡ false → m < d
early_of d m e = grind arith

yours_is : (t u : Ticket) (q r : Reservation) → Reply.yours t q ≡ Reply.yours u r → t ≡ u
yours_is t u q r e = cc

open_gave : (H : List Entry) (k r m : ℕ) (o : Option Assignment) (u : Ticket) (v : Reservation) → chosen H m ≡ o → m < deadline_of H r →
    (polled_open H k r m o).reply ≡ Reply.yours u v → Yours H k r m (polled_open H k r m o).changes u
open_gave H k r m None u v is early e = absurd cc
open_gave H k r m (Some a) u v is early e = by_request (nat_eq a.request r) refl e
  where
    by_request : (b : Bool) → nat_eq a.request r ≡ b → (polled_open H k r m (Some a)).reply ≡ Reply.yours u v → Yours H k r m (polled_open H k r m (Some a)).changes u
    by_request true f e = mine (grind arith) (grind arith) (grind arith)
      where
        mine : a.request ≡ r → (polled_open H k r m (Some a)).changes ≡ reserves m a ∷ [] → u.request ≡ r → Yours H k r m (polled_open H k r m (Some a)).changes u
        mine request changes ticket = record { a = a; is_chosen = is; request_is = request; ticket_is = ticket; changes_are = changes; early = early }
    by_request false f e = absurd (grind arith)

pub gave : (H : List Entry) (k r m : ℕ) (o : Option Outcome) (u : Ticket) (v : Reservation) → (polled H k r m o).reply ≡ Reply.yours u v → Yours H k r m (polled H k r m o).changes u
gave H k r m (Some outcome) u v e = absurd cc
gave H k r m None u v e = by_deadline (nat_le (deadline_of H r) m) refl e
  where
    by_deadline : (b : Bool) → nat_le (deadline_of H r) m ≡ b → (polled H k r m None).reply ≡ Reply.yours u v → Yours H k r m (polled H k r m None).changes u
    by_deadline true f e = absurd (grind arith)
    by_deadline false f e = rw f (open_gave H k r m (chosen H m) u v refl (early_of (deadline_of H r) m f) (grind arith))

pub yours_early : (c : HubConfig) (H : List Entry) (k : ℕ) (t u : Ticket) (r : Reservation) (at : ℕ) → (hub c H k (Call.poll t) at).reply ≡ Reply.yours u r → IsEarly H t at
unfolding hub
yours_early c H k t u r at e = (gave H k t.request (max at (clock H)) (outcome_of H t.request) u r e).early

-- ---- a poll that is told to wait

pub record Waits (H : List Entry) (r m : ℕ) (changes : List Change) (u : Ticket) : Type 0 where
  pub early : m < deadline_of H r
  pub ticket_is : u.request ≡ r
  pub changes_are : changes ≡ []

open_waits : Known → (H : List Entry) (k r m : ℕ) (o : Option Assignment) (u : Ticket) → m < deadline_of H r → (polled_open H k r m o).reply ≡ Reply.not_yet u →
    Waits H r m (polled_open H k r m o).changes u
open_waits proved H k r m None u early e = record { early = early; ticket_is = grind arith; changes_are = refl }
open_waits proved H k r m (Some a) u early e = by_request (nat_eq a.request r) refl e
  where
    by_request : (b : Bool) → nat_eq a.request r ≡ b → (polled_open H k r m (Some a)).reply ≡ Reply.not_yet u → Waits H r m (polled_open H k r m (Some a)).changes u
    by_request true f e = absurd (grind arith)
    by_request false f e = other (grind arith) (grind arith)
      where
        other : (polled_open H k r m (Some a)).changes ≡ [] → u.request ≡ r → Waits H r m (polled_open H k r m (Some a)).changes u
        other changes ticket = record { early = early; ticket_is = ticket; changes_are = changes }

waits : Known → (H : List Entry) (k r m : ℕ) (o : Option Outcome) (u : Ticket) → (polled H k r m o).reply ≡ Reply.not_yet u → Waits H r m (polled H k r m o).changes u
waits proved H k r m (Some outcome) u e = absurd cc
waits proved H k r m None u e = by_deadline (nat_le (deadline_of H r) m) refl e
  where
    by_deadline : (b : Bool) → nat_le (deadline_of H r) m ≡ b → (polled H k r m None).reply ≡ Reply.not_yet u → Waits H r m (polled H k r m None).changes u
    by_deadline true f e = absurd (grind arith)
    by_deadline false f e = rw f (open_waits proved H k r m (chosen H m) u (early_of (deadline_of H r) m f) (grind arith))

pub not_yet : Known → (c : HubConfig) (H : List Entry) (k : ℕ) (t u : Ticket) (at : ℕ) → (hub c H k (Call.poll t) at).reply ≡ Reply.not_yet u →
    IsEarly H t at × (u.request ≡ t.request) × (after_call c H k (Call.poll t) at ≡ H)
unfolding hub
not_yet proved c H k t u at e = by_waits (waits proved H k t.request (max at (clock H)) (outcome_of H t.request) u e)
  where
    by_waits : Waits H t.request (max at (clock H)) (polled H k t.request (max at (clock H)) (outcome_of H t.request)).changes u →
        IsEarly H t at × (u.request ≡ t.request) × (after H k (polled H k t.request (max at (clock H)) (outcome_of H t.request)).changes ≡ H)
    by_waits w = (w.early, w.ticket_is, ap (after H k) w.changes_are)

-- ---- deadlines

queued_deadline : (c : HubConfig) (H : List Entry) (k r : ℕ) (choices : List (List Cap)) (d at : Moment) → permitted c H k (change.Queued r choices d at) ≡ true → d.0 ≤ last_moment
unfolding permitted
queued_deadline c H k r choices d at p = let same : nat_eq d.0 (deadline_at c choices at.0) ≡ true = grind arith in grind arith

pub deadlines : Known → (c : HubConfig) (H : List Entry) (r : ℕ) → legal c H ≡ true → deadline_of H r ≤ last_moment
deadlines proved c [] r l = omega arith
deadlines proved c (e ∷ H) r l = by_change e.caller e.change ((laws proved).legal-permitted c e H l) (deadlines proved c H r ((laws proved).legal-before c e H l))
  where
    by_change : (k : ℕ) (ch : Change) → permitted c H k ch ≡ true → deadline_of H r ≤ last_moment → deadline_of (entry k ch ∷ H) r ≤ last_moment
    by_change k (change.Queued q choices d at) p before = elim (nat_eq q r) as (λ v. nat_eq q r ≡ v → deadline_of (entry k (change.Queued q choices d at) ∷ H) r ≤ last_moment) [
      | true ↦ λ e. let late : d.0 ≤ last_moment = queued_deadline c H k q choices d at p in grind arith
      | false ↦ λ e. grind arith
    ] refl
    by_change k ch p before = before
