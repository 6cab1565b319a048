-- How a start's request stands behind its bind, and what the core lends of it then.
use Rattle.std.proofs.Common.{◌≡◌, ℕ, max, Bool, true, false, List, [], ◌∷◌, refl, sym, ap, ◌∙◌, subst, arith, Result}
use Rattle.std.specs.Prelude.{Option, None, Some, cond, not, ◌&&◌, nat_eq, is_some}
use Rattle.grid_types.specs.declared.config.HubConfig.{HubConfig}
use Rattle.grid_types.specs.declared.capabilities.Cap.{Cap}
use Rattle.grid_types.specs.declared.names.SlotId.{SlotId}
use Rattle.grid_types.specs.declared.entry.Entry.{Entry}
use Rattle.grid_types.specs.declared.entry.Change.{Change}
use Rattle.grid_types.specs.declared.entry.Change.TheVariants as change
use Rattle.grid_types.specs.declared.entry.Outcome.{Outcome}
use Rattle.grid_types.specs.declared.entry.Outcome.TheVariants as outcome
use Rattle.grid_types.specs.declared.names.Moment.{Moment}
use Rattle.grid_types.specs.History.{after, clock}
use Rattle.grid_types.specs.HistoryLaws.{Known, laws}
use Rattle.grid_types.specs.HubAnswers.{after_call, hub, moment}
use Rattle.grid_types.specs.Legal.{legal}
use Rattle.grid_types.specs.Lists.{earlier, or_else}
use Rattle.grid_types.specs.Nodes.{is_base_up, address_of}
use Rattle.grid_types.specs.Requests.{held as held_place, place, place_by, is_taken, is_reserved, is_settled, outcome_of, outcome_told, asked_of}
use Rattle.grid_types.specs.Slots.{holder, held}
use Rattle.grid_types.specs.Tables.{entry}
use Rattle.grid_types.specs.Tokens.{Reservation, is_good_reservation}
use Rattle.grid_types.specs.Calls.{Call, Reply}
use Rattle.grid_journal.specs.declared.piece.PieceFault.{PieceFault}
use Rattle.hub_core.specs.declared.hub.HubCore.{HubCore}
use Rattle.hub_core.specs.declared.answers.Binding.{Binding}
use Rattle.hub_core.specs.declared.answers.Binding.TheVariants as binding
use Rattle.hub_core.specs.CoreStands.{Stands, CoreServes, CoreTells, later, is_known}
use Rattle.hub_core.specs.Ahead.{is_bound}
use Rattle.hub_core.specs.Lent.{created_caps}
use Rattle.hub_core.specs.Replies.{binding_reply}
use Rattle.hub_core.specs.Serves.{MayCall}
use Rattle.reply_laws.specs.Made.{CallsMake, bind_made}
use Rattle.hub_tellers.specs.declared.starts.Start.{Start}
use Rattle.hub_tellers.specs.declared.starts.Standing.{Standing}
use Rattle.hub_tellers.specs.Starts.{IsOf, Stood, StoodSo}
use Rattle.hub_tellers.specs.Tells.{Tells}
use Rattle.hub_tellers.specs.Records.{TellsCall}
use Rattle.hub_tellers.proofs.CallLemmas.{answered, replied}
use Rattle.hub_tellers.proofs.RowLemmas.{after_is, some-inj}

-- the request was settled, or was asked for: either stays so
data WasKnown (H : List Entry) (r : ℕ) : Type 0 where
  by_outcome : (is : is_some (outcome_of H r) ≡ true) → WasKnown H r
  by_asking : (is : is_some (asked_of H r) ≡ true) → WasKnown H r

still-some : {X : Type 0} (o p : Option X) → is_some o ≡ true → is_some (earlier o p) ≡ true
still-some None p e = absurd (cc)
still-some (Some x) None e = refl
still-some (Some x) (Some y) e = refl

some-still : {X : Type 0} (o p : Option X) → is_some p ≡ true → is_some (or_else o p) ≡ true
some-still None p e = e
some-still (Some x) p e = refl

known-after : (k r : ℕ) (cs : List Change) (H : List Entry) → WasKnown H r → WasKnown (after H k cs) r
known-after k r [] H known = known
known-after k r (c ∷ cs) H (by_outcome is) = known-after k r cs (entry k c ∷ H) (by_outcome (still-some (outcome_of H r) (outcome_told r H c) is))
known-after k r (c ∷ cs) H (by_asking is) = known-after k r cs (entry k c ∷ H) (by_asking (some-still _ (asked_of H r) is))

place-known : (v : Bool) (o : Option Outcome) (u w : Bool) → (is_some o ≡ true) → is_known (place_by v o u w) ≡ true
place-known true o u w e = refl
place-known false (Some o) u w e = refl
place-known false None u w e = absurd (cc)

place-asked : (v : Bool) (o : Option Outcome) (u w : Bool) → w ≡ true → is_known (place_by v o u w) ≡ true
place-asked true o u w h = refl
place-asked false (Some o) u w h = refl
place-asked false None true w h = refl
place-asked false None false true h = refl
place-asked false None false false h = absurd (cc)

is-known : (H : List Entry) (r : ℕ) → WasKnown H r → is_known (place H r) ≡ true
is-known H r (by_outcome is) = place-known (is_taken H r) (outcome_of H r) (is_reserved H r) (is_some (asked_of H r)) is
is-known H r (by_asking is) = place-asked (is_taken H r) (outcome_of H r) (is_reserved H r) (is_some (asked_of H r)) is

held-reserved : (v : Bool) (o : Option Outcome) (u w : Bool) → place_by v o u w ≡ held_place → u ≡ true
held-reserved true o u w e = absurd (cc)
held-reserved false (Some o) u w e = absurd (cc)
held-reserved false None true w e = refl
held-reserved false None false true e = absurd (cc)
held-reserved false None false false e = absurd (cc)

-- the request of a good reservation
start-known : Known → (c : HubConfig) (H : List Entry) (k r : ℕ) (s : SlotId) → legal c H ≡ true → is_good_reservation H k r s ≡ true → WasKnown H r
start-known proved c H k r s l good = by_settled (is_settled H r) refl
  where
    by_settled : (v : Bool) → is_settled H r ≡ v → WasKnown H r
    by_settled true e = by_outcome e
    by_settled false e =
        let holds : holder H s ≡ held r = (laws proved).held-is r (holder H s) (grind arith) in
        let at_slot : place H r ≡ held_place = (laws proved).place-held c H s r l holds e in
        by_asking ((laws proved).reserved-asked c H r l (held-reserved (is_taken H r) (outcome_of H r) (is_reserved H r) (is_some (asked_of H r)) at_slot))

pub start-known_later : Known → (c : HubConfig) (H : List Entry) (k : ℕ) (v : Reservation) (x : List ℕ) (caps : List Cap) (at : ℕ) (reply : Option Reply) → legal c H ≡ true → MayCall H k (Call.bind v x caps) →
    is_known (place (later c H k (Call.bind v x caps) at reply) v.request) ≡ true
start-known_later proved c H k v x caps at None l may = is-known H v.request (start-known proved c H k v.request v.slot l may.is_good)
start-known_later proved c H k v x caps at (Some reply) l may = is-known (after_call c H k (Call.bind v x caps) at) v.request
    (known-after k v.request (hub c H k (Call.bind v x caps) at).changes H (start-known proved c H k v.request v.slot l may.is_good))

-- a session is bound only where the request was not settled
bound-late : (c : HubConfig) (H : List Entry) (k : ℕ) (v : Reservation) (x : List ℕ) (caps : List Cap) (at : ℕ) → is_settled H v.request ≡ true → is_bound (hub c H k (Call.bind v x caps) at).reply ≡ false
unfolding hub
bound-late c H k v x caps at e = rw e refl

bound-open : (c : HubConfig) (H : List Entry) (k : ℕ) (v : Reservation) (x : List ℕ) (caps : List Cap) (at b : ℕ) → is_settled H v.request ≡ true → Reply.bound b ≡ (hub c H k (Call.bind v x caps) at).reply → ⊥
bound-open c H k v x caps at b e is = let never : true ≡ false = ap is_bound is ∙ bound-late c H k v x caps at e in absurd (cc)

no-outcome : (o : Option Outcome) → (is_some o ≡ true → ⊥) → o ≡ None
no-outcome None h = refl
no-outcome (Some x) h = absurd (h refl)

created-behind : (H : List Entry) (k r : ℕ) (s : SlotId) (x : List ℕ) (caps : List Cap) (now : Moment) (drains : Bool) → outcome_of H r ≡ None →
    outcome_of (after H k (change.Bound r s x caps now ∷ cond drains (change.Draining s.node now ∷ []) [])) r ≡ Some (outcome.Created x caps s (address_of H s.node) r)
created-behind H k r s x caps now true none = let same : nat_eq r r ≡ true = grind arith in rw (none, same) refl
created-behind H k r s x caps now false none = let same : nat_eq r r ≡ true = grind arith in rw (none, same) refl

lent-caps : (v : Bool) (o : Option Outcome) (u w : Bool) (row caps : List Cap) (x : List ℕ) (s : SlotId) (address : List ℕ) (b : ℕ) → o ≡ Some (outcome.Created x caps s address b) →
    Some row ≡ created_caps (place_by v o u w) → row ≡ caps
lent-caps true o u w row caps x s address b is lent = absurd (cc)
lent-caps false o u w row caps x s address b is lent =
    some-inj row caps (subst (λ (z : Option Outcome). Some row ≡ created_caps (place_by false z u w)) is lent)

module _ (made : CallsMake) (k : ℕ) (now : Moment) (old new : HubCore) (at : ℕ) (before after_told : List ℕ) (told : Result (Unit {0}) PieceFault)
    (raised : CoreTells old (λ H. now.0 ≡ max at (clock H))) (v : Reservation) (x : List ℕ) (caps : List Cap) (standing : Standing) where
  -- a session that is kept is told by its row
  pub kept_told : (row : List Cap) (a : Binding) (b number : ℕ) → v.request ≡ number → a ≡ binding.Bound b → CoreServes old new k (Call.bind v x caps) at (binding_reply a) →
      ((H : List Entry) → Stands old H → MayCall H k (Call.bind v x caps) → StoodSo k v x caps standing (binding_reply a) old.config H at) →
      CoreTells new (λ H. Some row ≡ created_caps (place H number)) → Tells (Stood k v x row standing (binding_reply a)) k (Call.bind v x row) (binding_reply a) now before after_told told →
      TellsCall old k (Call.bind v x caps) at (binding_reply a) before after_told told
  kept_told row a b number numbered e serves stood lends tells = subst
      (λ (z : Binding). CoreServes old new k (Call.bind v x caps) at (binding_reply z) → ((H : List Entry) → Stands old H → MayCall H k (Call.bind v x caps) → StoodSo k v x caps standing (binding_reply z) old.config H at) →
      Tells (Stood k v x row standing (binding_reply z)) k (Call.bind v x row) (binding_reply z) now before after_told told →
      TellsCall old k (Call.bind v x caps) at (binding_reply z) before after_told told)
      (sym e) by_row serves stood tells
    where
      lent : (L : List Entry) → Stands new L → Some row ≡ created_caps (place L v.request)
      lent L stands = subst (λ (n : ℕ). Some row ≡ created_caps (place L n)) (sym numbered) (lends.of L stands)

      by_row : CoreServes old new k (Call.bind v x caps) at (Some (Reply.bound b)) → ((H : List Entry) → Stands old H → MayCall H k (Call.bind v x caps) → StoodSo k v x caps standing (Some (Reply.bound b)) old.config H at) →
          Tells (Stood k v x row standing (Some (Reply.bound b))) k (Call.bind v x row) (Some (Reply.bound b)) now before after_told told →
          TellsCall old k (Call.bind v x caps) at (Some (Reply.bound b)) before after_told told
      by_row serves_it stood_it tells_it = record {
        of = λ H s may.
            let m : Moment = moment (max at (clock H)) in
            let is = replied old.config H _ k (Call.bind v x caps) at (Some (Reply.bound b)) (serves_it.serves H s may).answers in
            let up : Bool = is_base_up H v.slot.node in
            let ups : Bool = is_base_up (after_call old.config H k (Call.bind v x caps) at) v.slot.node in
            let settles : Bool = is_settled (after_call old.config H k (Call.bind v x caps) at) v.request in
            let goes = after_is old.config H k (Call.bind v x caps) at (bind_made v x caps up ups settles) (Reply.bound b) (made.bind old.config H k at v x caps) is in
            let stands : Stands new (after H k (change.Bound v.request v.slot x caps m ∷ cond (up && not ups) (change.Draining v.slot.node m ∷ []) [])) = subst (λ (L : List Entry). Stands new L) goes (serves_it.stands H s may) in
            let none : outcome_of H v.request ≡ None = no-outcome (outcome_of H v.request) (λ settled. bound-open old.config H k v x caps at b settled is) in
            let next : List Entry = after H k (change.Bound v.request v.slot x caps m ∷ cond (up && not ups) (change.Draining v.slot.node m ∷ []) []) in
            let same : row ≡ caps = lent-caps (is_taken next v.request) (outcome_of next v.request) (is_reserved next v.request) (is_some (asked_of next v.request)) row caps x v.slot (address_of H v.slot.node) v.request
            (created-behind H k v.request v.slot x caps m (up && not ups) none) (lent next stands) in
            let told_it : Tells (Stood k v x caps standing (Some (Reply.bound b))) k (Call.bind v x caps) (Some (Reply.bound b)) now before after_told told =
            subst (λ (r : List Cap). Tells (Stood k v x r standing (Some (Reply.bound b))) k (Call.bind v x r) (Some (Reply.bound b)) now before after_told told) same tells_it in
            told_it old.config H at (stood_it H s may) (answered old new k at (Call.bind v x caps) (Some (Reply.bound b)) now serves_it raised H s may);
      }

-- how the node and the request stood, as the core tells before its call and behind it
pub stood_so : Known → (old new : HubCore) (k : ℕ) (v : Reservation) (x : List ℕ) (caps : List Cap) (at : ℕ) (reply : Option Reply) (start : Start) {was is done : Bool} → IsOf start v →
    CoreServes old new k (Call.bind v x caps) at reply → CoreTells old (λ H. was ≡ is_base_up H start.slot.node) → CoreTells new (λ H. is ≡ is_base_up H start.slot.node) →
    CoreTells new (λ H. is_known (place H start.request) ≡ true → done ≡ is_settled H start.request) →
    (H : List Entry) → Stands old H → MayCall H k (Call.bind v x caps) → StoodSo k v x caps (record { was_up = was; is_up = is; is_settled = done }) reply old.config H at
stood_so proved old new k v x caps at reply start {was = was} {is = is} {done = done} is_of serves before behind settled H s may =
    let next : List Entry = later old.config H k (Call.bind v x caps) at reply in
    let stands = serves.stands H s may in
    record {
      before = subst (λ (z : SlotId). was ≡ is_base_up H z.node) (sym is_of.same_slot) (before.of H s);
      after = subst (λ (z : SlotId). is ≡ is_base_up next z.node) (sym is_of.same_slot) (behind.of next stands);
      settled = subst (λ (n : ℕ). is_known (place next n) ≡ true → done ≡ is_settled next n) (sym is_of.same_request) (settled.of next stands)
          (start-known_later proved old.config H k v x caps at reply s.is_legal may);
    }
