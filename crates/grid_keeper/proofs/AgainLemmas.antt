-- What making a row again leads to.
use Rattle.std.proofs.Common.{◌≡◌, ℕ, max, ◌≤◌, ◌<◌, Bool, true, false, ◌&&◌, nat_lt, List, ◌∷◌, length, refl, sym, ◌∙◌, ap, subst, arith, inl, inr, Option, None, Some, IsSome}
use Rattle.std.proofs.lemmas.List.{length-reverse}
use Rattle.grid_types.specs.declared.config.HubConfig.{HubConfig}
use Rattle.grid_types.specs.declared.entry.Entry.{Entry}
use Rattle.std.specs.Ordering.{nat_cmp}
use Rattle.std.specs.BTreeMap.{get}
use Rattle.grid_types.specs.Tokens.{ticket_of, reservation_of, is_good_reservation, is_good_closing, Closing, Reservation}
use Rattle.grid_types.specs.Laws.{is_good_call}
use Rattle.grid_types.specs.Permitted.{is_start_failure}
use Rattle.grid_types.specs.declared.names.Moment.{Moment}
use Rattle.grid_types.specs.declared.names.SlotId.{SlotId}
use Rattle.grid_types.specs.declared.capabilities.Cap.{Cap}
use Rattle.grid_types.specs.declared.entry.FailWhy.{FailWhy}
use Rattle.grid_types.specs.declared.entry.Change.TheVariants as change
use Rattle.grid_types.specs.History.{after, clock}
use Rattle.grid_types.specs.Calls.{Call, Reply}
use Rattle.grid_types.specs.HubAnswers.{hub, after_call, bound_by, refusal_of, drain_after_bind, moment}
use Rattle.hub_core.specs.Answers.{Answers}
use Rattle.hub_core.specs.Serves.{MayCall}
use Rattle.hub_core.specs.HubView.{HubView, past, ServesLocally}
use Rattle.hub_core.specs.declared.answers.Beating.{Beating}
use Rattle.hub_core.specs.declared.answers.Beating.TheVariants as beating
use Rattle.hub_core.specs.declared.answers.Draining.{Draining}
use Rattle.hub_core.specs.declared.answers.Draining.TheVariants as draining
use Rattle.hub_core.specs.declared.answers.Removal.{Removal}
use Rattle.hub_core.specs.declared.answers.Removal.TheVariants as removal
use Rattle.hub_core.specs.declared.answers.Touching.{Touching}
use Rattle.hub_core.specs.declared.answers.Touching.TheVariants as touching
use Rattle.hub_core.specs.declared.answers.Ending.{Ending}
use Rattle.hub_core.specs.declared.answers.Ending.TheVariants as ending
use Rattle.hub_core.specs.declared.answers.Expiring.{Expiring}
use Rattle.hub_core.specs.declared.answers.Expiring.TheVariants as expiring
use Rattle.hub_core.specs.declared.answers.Failing.{Failing}
use Rattle.hub_core.specs.declared.answers.Failing.TheVariants as failing
use Rattle.hub_core.specs.Replies.{beating_reply, draining_reply, removal_reply, touching_reply, ending_reply, expiring_reply, failing_reply}
use Rattle.grid_journal.specs.declared.rows.Row.{Row}
use Rattle.grid_journal.specs.declared.rows.Row.TheVariants as row
use Rattle.grid_journal.specs.RowSpelled.{RowFits}
use Rattle.grid_keeper.specs.Replays.{Names, row_moment}
use Rattle.grid_keeper.specs.Holds.{HoldsAll, Complete, place_of}
use Rattle.grid_keeper.proofs.KeepLemmas.{longer}
use Rattle.grid_keeper.specs.Opening.{NoGo, Again, WentOn}
use Rattle.grid_keeper.specs.declared.left.Left.{Left}

-- the row names one call alone
abbrev pub NamesOne : List Entry → Row → Call → Type 0
NamesOne H r call = (other : Call) → Names H r other → other ≡ call

-- an answer that is there is that of the hub of one thread
exact-of : (c : HubConfig) (H later : List Entry) (call : Call) (at : ℕ) (reply : Option Reply) → IsSome reply → Answers c H 0 call at reply later → later ≡ after_call c H 0 call at
exact-of c H later call at None some answers = absurd (cc some)
exact-of c H later call at (Some reply) some (inl exact) = exact.goes_on
exact-of c H later call at (Some reply) some (inr lack) = absurd (cc lack.silent)

no_go : (c : HubConfig) (H later : List Entry) (r : Row) (call : Call) → NamesOne H r call → later ≡ after_call c H 0 call (row_moment r) → length later ≤ length H → NoGo c H r
no_go c H later r call one is short other goes =
    let same : goes.call ≡ call = one goes.call goes.named in
    let there : other ≡ later = goes.goes_on ∙ ap (λ (k : Call). after_call c H 0 k (row_moment r)) same ∙ sym is in
    absurd (omega (arith, goes.makes, ap length there, short))

below : (m n : ℕ) → nat_lt m n ≡ true → m < n
below m n e = grind (arith, e)

not_below : (m n : ℕ) → nat_lt m n ≡ false → n ≤ m
not_below m n e = grind (arith, e)

past_long : (h : HubView) → length (past h) ≡ length h.journal
past_long h = length-reverse h.journal

by_growth : (mid new : HubView) (left : Left) (r : Row) (call : Call) (reply : Option Reply) (grew : Bool) → nat_lt (length mid.journal) (length new.journal) ≡ grew → RowFits r → Names (past mid) r call
    → NamesOne (past mid) r call → MayCall (past mid) 0 call → IsSome reply → ServesLocally mid call (row_moment r) reply new → HoldsAll (past new) left → Again mid.config (past mid) r grew (past new) left
by_growth mid new left r call reply true e fits named one may some serves all = (
  record {
    fits = fits;
    call = call;
    named = named;
    may = may;
    goes_on = exact-of mid.config (past mid) (past new) call (row_moment r) reply some serves.serves.answers;
    makes = omega (arith, below (length mid.journal) (length new.journal) e, past_long mid, past_long new);
  },
  all,
)
by_growth mid new left r call reply false e fits named one may some serves all =
    (no_go mid.config (past mid) (past new) r call one (exact-of mid.config (past mid) (past new) call (row_moment r) reply some serves.serves.answers)
    (omega (arith, not_below (length mid.journal) (length new.journal) e, past_long mid, past_long new)))

went_by : (mid new : HubView) (left : Left) (r : Row) (call : Call) (reply : Option Reply) → RowFits r → Names (past mid) r call → NamesOne (past mid) r call → MayCall (past mid) 0 call → IsSome reply
    → ServesLocally mid call (row_moment r) reply new → HoldsAll (past new) left → WentOn mid.config (past mid) r (nat_lt (length mid.journal) (length new.journal)) new left
went_by mid new left r call reply fits named one may some serves all = record {
  same_config = serves.same_config;
  again = by_growth mid new left r call reply (nat_lt (length mid.journal) (length new.journal)) refl fits named one may some serves all;
}

-- the hub has made the row's call, and its journal was counted before and after
pub went : (mid new : HubView) (left : Left) (r : Row) (call : Call) (reply : Option Reply) (before after : ℕ) → before ≡ length mid.journal → after ≡ length new.journal → RowFits r → Names (past mid) r call
    → NamesOne (past mid) r call → MayCall (past mid) 0 call → IsSome reply → ServesLocally mid call (row_moment r) reply new → HoldsAll (past new) left
    → WentOn mid.config (past mid) r (nat_lt before after) new left
went mid new left r call reply before after first last fits named one may some serves all =
    subst (λ (n : ℕ). WentOn mid.config (past mid) r (nat_lt n after) new left) (sym first)
    (subst (λ (n : ℕ). WentOn mid.config (past mid) r (nat_lt (length mid.journal) n) new left) (sym last) (went_by mid new left r call reply fits named one may some serves all))

by_growth_always : (mid new : HubView) (left : Left) (r : Row) (call : Call) (reply : Option Reply) (grew : Bool) → nat_lt (length mid.journal) (length new.journal) ≡ grew → RowFits r → Names (past mid) r call
    → length (past mid) < length (after_call mid.config (past mid) 0 call (row_moment r)) → MayCall (past mid) 0 call → IsSome reply → ServesLocally mid call (row_moment r) reply new → HoldsAll (past new) left
    → Again mid.config (past mid) r grew (past new) left
by_growth_always mid new left r call reply true e fits named grows may some serves all = (
  record {
    fits = fits;
    call = call;
    named = named;
    may = may;
    goes_on = exact-of mid.config (past mid) (past new) call (row_moment r) reply some serves.serves.answers;
    makes = omega (arith, below (length mid.journal) (length new.journal) e, past_long mid, past_long new);
  },
  all,
)
by_growth_always mid new left r call reply false e fits named grows may some serves all =
    let there = ap length (exact-of mid.config (past mid) (past new) call (row_moment r) reply some serves.serves.answers) in
    absurd (omega (arith, not_below (length mid.journal) (length new.journal) e, past_long mid, past_long new, there, grows))

-- the same for a call that always makes an entry
pub went_always : (mid new : HubView) (left : Left) (r : Row) (call : Call) (reply : Option Reply) (before after : ℕ) → before ≡ length mid.journal → after ≡ length new.journal → RowFits r → Names (past mid) r call
    → length (past mid) < length (after_call mid.config (past mid) 0 call (row_moment r)) → MayCall (past mid) 0 call → IsSome reply → ServesLocally mid call (row_moment r) reply new → HoldsAll (past new) left
    → WentOn mid.config (past mid) r (nat_lt before after) new left
went_always mid new left r call reply before after first last fits named grows may some serves all =
    subst (λ (n : ℕ). WentOn mid.config (past mid) r (nat_lt n after) new left) (sym first)
    (subst (λ (n : ℕ). WentOn mid.config (past mid) r (nat_lt (length mid.journal) n) new left) (sym last) (record {
      same_config = serves.same_config;
      again = by_growth_always mid new left r call reply (nat_lt (length mid.journal) (length new.journal)) refl fits named grows may some serves all;
    }))

-- calls that always make an entry
pub freed-grows : (c : HubConfig) (H : List Entry) (t : Closing) (at : ℕ) → length H < length (after_call c H 0 (Call.freed t) at)
unfolding hub
freed-grows c H t at = omega arith

pub fail-grows : (c : HubConfig) (H : List Entry) (t : Reservation) (w : FailWhy) (at : ℕ) → length H < length (after_call c H 0 (Call.fail t w) at)
unfolding hub
fail-grows c H t w at = omega arith

bound-grows : (H : List Entry) (r : ℕ) (s : SlotId) (x : List ℕ) (caps : List Cap) (m : ℕ) (o : Option FailWhy) → length H < length (after H 0 (bound_by H 0 r s x caps m o).changes)
bound-grows H r s x caps m None =
    let e : Entry = record { caller = 0; change = change.Bound r s x caps (moment m) } in
    omega (arith, longer (e ∷ H) 0 (drain_after_bind (e ∷ H) s.node m))
bound-grows H r s x caps m (Some w) = omega arith

pub bind-grows : (c : HubConfig) (H : List Entry) (t : Reservation) (x : List ℕ) (caps : List Cap) (at : ℕ) → length H < length (after_call c H 0 (Call.bind t x caps) at)
unfolding hub
bind-grows c H t x caps at = bound-grows H t.request t.slot x caps (max at (clock H)) (refusal_of H t.request t.slot x caps)

-- slots with one number are one
pub slot_there : (s t : SlotId) → s.index < 65_536 → t.index < 65_536 → place_of s ≡ place_of t → s ≡ t
slot_there s t small few same =
    let nodes : s.node ≡ t.node = omega (arith, small, few, same) in
    let places : s.index ≡ t.index = omega (arith, nodes, same) in
    ap (λ (n : ℕ). record { node = n; index = s.index }) nodes ∙ ap (λ (n : ℕ). record { node = t.node; index = n }) places

-- after room was made
pub from_room : (old mid new : HubView) (left : Left) (r : Row) (grew : Bool) → mid ≡ record old { room = true } → WentOn mid.config (past mid) r grew new left → WentOn old.config (past old) r grew new left
from_room old mid new left r grew made went = subst (λ (h : HubView). WentOn h.config (past h) r grew new left) made went

pub all_roomy : (old mid : HubView) (left : Left) → mid ≡ record old { room = true } → HoldsAll (past old) left → HoldsAll (past mid) left
all_roomy old mid left made all = subst (λ (h : HubView). HoldsAll (past h) left) (sym made) all

-- the row can't be made again
pub stuck : (hub : HubView) (left : Left) (r : Row) → NoGo hub.config (past hub) r → WentOn hub.config (past hub) r false hub left
stuck hub left r none = record { same_config = refl; again = none }

nothing_there : {T : Type 0} (found : Option T) → IsSome found → found ≡ None → ⊥
nothing_there (Some t) some none = absurd (cc none)
nothing_there None some none = absurd (cc some)

-- without its token a row can't be made again
pub no_ticket : (c : HubConfig) (H : List Entry) (left : Left) (r : ℕ) (at : Moment) → Complete H left → get nat_cmp left.tickets r ≡ None → NoGo c H (row.Poll r at)
no_ticket c H left r at complete none later goes =
    let good : is_good_call H 0 (Call.poll (ticket_of H r)) ≡ true = subst (λ (k : Call). is_good_call H 0 k ≡ true) goes.named goes.may.is_good in
    nothing_there (get nat_cmp left.tickets r) (complete.tickets r good) none

pub no_bind : (c : HubConfig) (H : List Entry) (left : Left) (r : ℕ) (x : List ℕ) (caps : List Cap) (at : Moment) → Complete H left → get nat_cmp left.reservations r ≡ None → NoGo c H (row.Bind r x caps at)
no_bind c H left r x caps at complete none later goes =
    let good : is_good_call H 0 (Call.bind (reservation_of H r goes.named.0) x caps) ≡ true = subst (λ (k : Call). is_good_call H 0 k ≡ true) goes.named.1 goes.may.is_good in
    nothing_there (get nat_cmp left.reservations r) (complete.reservations r goes.named.0 good) none

first_of : (a b : Bool) → (a && b) ≡ true → a ≡ true
first_of true b e = refl
first_of false b e = absurd (cc e)

pub no_fail : (c : HubConfig) (H : List Entry) (left : Left) (r : ℕ) (w : FailWhy) (at : Moment) → Complete H left → get nat_cmp left.reservations r ≡ None → NoGo c H (row.Fail r w at)
no_fail c H left r w at complete none later goes =
    let good : is_good_call H 0 (Call.fail (reservation_of H r goes.named.0) w) ≡ true = subst (λ (k : Call). is_good_call H 0 k ≡ true) goes.named.1 goes.may.is_good in
    nothing_there (get nat_cmp left.reservations r) (complete.reservations r goes.named.0 (first_of (is_good_reservation H 0 r goes.named.0) (is_start_failure w) good)) none

pub no_freed : (c : HubConfig) (H : List Entry) (left : Left) (s : SlotId) → Complete H left → get nat_cmp left.closings (place_of s) ≡ None → NoGo c H (row.Freed s)
no_freed c H left s complete none later goes =
    let t : Closing = goes.named.0 in
    let good : is_good_call H 0 (Call.freed t) ≡ true = subst (λ (k : Call). is_good_call H 0 k ≡ true) goes.named.2 goes.may.is_good in
    nothing_there (get nat_cmp left.closings (place_of s)) (complete.closings s goes.fits.1 (subst (λ (u : SlotId). is_good_closing H 0 u ≡ true) goes.named.1 good)) none

-- answers that are always there
pub beating-some : (a : Beating) → IsSome (beating_reply a)
beating-some beating.Beaten = refl
beating-some beating.NoNode = refl

pub draining-some : (a : Draining) → IsSome (draining_reply a)
draining-some draining.Draining = refl
draining-some draining.NoNode = refl

pub removal-some : (a : Removal) → IsSome (removal_reply a)
removal-some removal.Removed = refl
removal-some removal.NoNode = refl

pub touching-some : (a : Touching) → IsSome (touching_reply a)
touching-some touching.Touched = refl
touching-some touching.NoSession = refl

pub ending-some : (a : Ending) → IsSome (ending_reply a)
ending-some (ending.Ended t) = refl
ending-some ending.NoSession = refl

pub expiring-some : (a : Expiring) → IsSome (expiring_reply a)
expiring-some (expiring.Expired t) = refl
expiring-some expiring.Nothing = refl

pub failing-some : (a : Failing) → IsSome (failing_reply a)
failing-some failing.Again = refl
failing-some failing.Refused = refl
failing-some failing.Late = refl

-- a cause that is none of a start's makes no row go
pub no_cause : (c : HubConfig) (H : List Entry) (r : ℕ) (w : FailWhy) (at : Moment) → is_start_failure w ≡ false → NoGo c H (row.Fail r w at)
no_cause c H r w at none later goes =
    let good : is_good_call H 0 (Call.fail (reservation_of H r goes.named.0) w) ≡ true = subst (λ (k : Call). is_good_call H 0 k ≡ true) goes.named.1 goes.may.is_good in
    absurd (differs (is_good_reservation H 0 r goes.named.0) (is_start_failure w) good none)
  where
    differs : (a b : Bool) → (a && b) ≡ true → b ≡ false → ⊥
    differs true true g e = absurd (cc e)
    differs true false g e = absurd (cc g)
    differs false b g e = absurd (cc g)
