-- What the calls made that spend a reservation.
use Rattle.std.proofs.Common.{◌≡◌, ℕ, Bool, true, false, cond, not, ◌&&◌, max, List, [], ◌∷◌, refl, sym, ap, arith}
use Rattle.std.specs.Prelude.{Option, None, Some, nat_eq, is_some}
use Rattle.grid_types.specs.declared.config.HubConfig.{HubConfig}
use Rattle.grid_types.specs.declared.entry.Entry.{Entry}
use Rattle.grid_types.specs.declared.entry.Change.{Change}
use Rattle.grid_types.specs.declared.entry.Change.TheVariants as change
use Rattle.grid_types.specs.declared.entry.FailWhy.{FailWhy}
use Rattle.grid_types.specs.declared.entry.FailWhy.TheVariants as why
use Rattle.grid_types.specs.declared.entry.Outcome.{Outcome}
use Rattle.grid_types.specs.declared.names.Moment.{Moment}
use Rattle.grid_types.specs.declared.names.SlotId.{SlotId}
use Rattle.grid_types.specs.declared.capabilities.Cap.{Cap}
use Rattle.grid_types.specs.History.{after, clock}
use Rattle.grid_types.specs.Matching.{meets}
use Rattle.grid_types.specs.Nodes.{is_base_up, is_registered, is_spent}
use Rattle.grid_types.specs.Requests.{outcome_of, is_settled}
use Rattle.grid_types.specs.Sessions.{is_live_session}
use Rattle.grid_types.specs.Permitted.{is_last, wanted_of}
use Rattle.grid_types.specs.Tables.{entry}
use Rattle.grid_types.specs.Tokens.{Reservation}
use Rattle.grid_types.specs.Calls.{Call, Reply}
use Rattle.grid_types.specs.HubAnswers.{Answer, bound_by, hub, moment}
use Rattle.reply_laws.specs.Made.{Makes, bind_made, fail_made}

same_number : (n : ℕ) → nat_eq n n ≡ true
same_number n = grind arith

-- a failure that comes after the request was settled is not its last one
pub late_is_not_last : (H : List Entry) (r : ℕ) (s : SlotId) → is_settled H r ≡ true → is_last H r s ≡ false
unfolding is_last
late_is_not_last H r s e = rw e refl

-- a failure of a request that was not settled settles it where it is the last one
settles : (H : List Entry) (k r : ℕ) (s : SlotId) (w : FailWhy) (o : Option (List ℕ)) (last : Bool) (m : Moment) → is_settled H r ≡ false → is_settled (entry k (change.Failed r s w o last m) ∷ H) r ≡ last
settles H k r s w o last m e = by_outcome (outcome_of H r) refl e
  where
    by_last : (b : Bool) → outcome_of H r ≡ None → is_settled (entry k (change.Failed r s w o b m) ∷ H) r ≡ b
    by_last true none = rw (none, same_number r) refl
    by_last false none = rw (none, same_number r) refl

    by_outcome : (found : Option Outcome) → outcome_of H r ≡ found → is_some found ≡ false → is_settled (entry k (change.Failed r s w o last m) ∷ H) r ≡ last
    by_outcome None none unsettled = by_last last none
    by_outcome (Some x) some unsettled = absurd (cc)

-- a node that drains takes no new session
drained_is_not_up : (H : List Entry) (k n : ℕ) (m : Moment) → is_base_up (entry k (change.Draining n m) ∷ H) n ≡ false
drained_is_not_up H k n m = rw (same_number n) refl

-- whether a bind drained its node, by how the node stood before and stands now
drained : (H : List Entry) (k n : ℕ) (m : Moment) (spent up : Bool) → is_base_up H n ≡ up →
    cond (spent && up) (change.Draining n m ∷ []) [] ≡ cond (up && not (is_base_up (after H k (cond (spent && up) (change.Draining n m ∷ []) [])) n)) (change.Draining n m ∷ []) []
drained H k n m true true e = rw (drained_is_not_up H k n m) refl
drained H k n m true false e = refl
drained H k n m false true e = rw e refl
drained H k n m false false e = refl

module _ (H : List Entry) (k m : ℕ) (t : Reservation) (x : List ℕ) (caps : List Cap) where
  -- what bind made, where this is what it answers
  abbrev pub MakesBind : Answer → Type 0
  MakesBind a = a.changes ≡ bind_made t x caps (is_base_up H t.slot.node) (is_base_up (after H k a.changes) t.slot.node) (is_settled (after H k a.changes) t.request) (moment m) a.reply

  abbrev pub failure : FailWhy → Bool → Change
  failure w last = change.Failed t.request t.slot w (Some x) last (moment m)

  same_failure : (w : FailWhy) (last other : Bool) → other ≡ last → failure w last ∷ [] ≡ failure w other ∷ []
  same_failure w last other e = ap (λ (b : Bool). failure w b ∷ []) (sym e)

  late : is_settled H t.request ≡ true → MakesBind (bound_by H k t.request t.slot x caps m (Some why.Late))
  late e = same_failure why.Late (is_last H t.request t.slot) false (sym (late_is_not_last H t.request t.slot e))

  gone : is_settled H t.request ≡ false → MakesBind (bound_by H k t.request t.slot x caps m (Some why.NodeGone))
  gone e = same_failure why.NodeGone (is_last H t.request t.slot) _ (settles H k t.request t.slot why.NodeGone (Some x) (is_last H t.request t.slot) (moment m) e)

  duplicate : is_settled H t.request ≡ false → MakesBind (bound_by H k t.request t.slot x caps m (Some why.Duplicate))
  duplicate e = same_failure why.Duplicate (is_last H t.request t.slot) _ (settles H k t.request t.slot why.Duplicate (Some x) (is_last H t.request t.slot) (moment m) e)

  mismatch : is_settled H t.request ≡ false → MakesBind (bound_by H k t.request t.slot x caps m (Some why.Mismatch))
  mismatch e = same_failure why.Mismatch (is_last H t.request t.slot) _ (settles H k t.request t.slot why.Mismatch (Some x) (is_last H t.request t.slot) (moment m) e)

  abbrev pub bound : Change
  bound = change.Bound t.request t.slot x caps (moment m)

  kept : MakesBind (bound_by H k t.request t.slot x caps m None)
  kept = ap (λ (l : List Change). bound ∷ l)
      (drained (entry k bound ∷ H) k t.slot.node (moment m) (is_spent (entry k bound ∷ H) t.slot.node) (is_base_up (entry k bound ∷ H) t.slot.node) refl)

  by_tests : (u v w z : Bool) → is_settled H t.request ≡ u →
      MakesBind (bound_by H k t.request t.slot x caps m (cond u (Some why.Late) (cond v (Some why.NodeGone) (cond w (Some why.Duplicate) (cond z (Some why.Mismatch) None)))))
  by_tests true v w z e = late e
  by_tests false true w z e = gone e
  by_tests false false true z e = duplicate e
  by_tests false false false true e = mismatch e
  by_tests false false false false e = kept

  pub bind_is_made : MakesBind (bound_by H k t.request t.slot x caps m
      (cond (is_settled H t.request) (Some why.Late) (cond (not (is_registered H t.slot.node)) (Some why.NodeGone) (cond (is_live_session H x) (Some why.Duplicate) (cond (not (meets (wanted_of H t.request t.slot) caps)) (Some why.Mismatch) None)))))
  bind_is_made = by_tests (is_settled H t.request) (not (is_registered H t.slot.node)) (is_live_session H x) (not (meets (wanted_of H t.request t.slot) caps)) refl

pub bind_makes : (c : HubConfig) (H : List Entry) (k at : ℕ) (t : Reservation) (x : List ℕ) (caps : List Cap) →
    Makes c H k (Call.bind t x caps) at (bind_made t x caps (is_base_up H t.slot.node) (is_base_up (after H k (hub c H k (Call.bind t x caps) at).changes) t.slot.node)
    (is_settled (after H k (hub c H k (Call.bind t x caps) at).changes) t.request))
unfolding hub
bind_makes c H k at t x caps = bind_is_made H k (max at (clock H)) t x caps

pub fail_makes : (c : HubConfig) (H : List Entry) (k at : ℕ) (t : Reservation) (w : FailWhy) → Makes c H k (Call.fail t w) at (fail_made t w)
unfolding hub
fail_makes c H k at t w = by_tests (max at (clock H)) (is_settled H t.request) (is_last H t.request t.slot) (late_is_not_last H t.request t.slot)
  where
    by_tests : (m : ℕ) (u v : Bool) → (u ≡ true → v ≡ false) → change.Failed t.request t.slot w None v (moment m) ∷ []
        ≡ fail_made t w (moment m) (cond u Reply.failed_late (cond v Reply.failed_refused Reply.failed_again))
    by_tests m true v late = rw (late refl) refl
    by_tests m false true late = refl
    by_tests m false false late = refl
