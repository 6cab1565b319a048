-- Starts of a request go to nodes on which it had none, and there are few of them.
use Rattle.std.proofs.Common.{◌≡◌, ◌⊎◌, ℕ, ◌+◌, ◌<◌, ◌≤◌, ◌^◌, max, Bool, true, false, cond, not, ◌&&◌, ◌||◌, List, [], ◌∷◌, ◌++◌, length, refl, sym, subst, ◌∙◌, arith, inl, inr, length-append}
use Rattle.std.specs.Prelude.{Option, None, Some, nat_eq, nat_le, nat_lt, is_some, ◌-◌}
use Rattle.std.specs.List.{list_any}
use Rattle.grid_types.specs.declared.config.HubConfig.{HubConfig}
use Rattle.grid_types.specs.declared.entry.Entry.{Entry}
use Rattle.grid_types.specs.declared.entry.Change.{Change}
use Rattle.grid_types.specs.declared.entry.Change.TheVariants as change
use Rattle.grid_types.specs.declared.entry.FailWhy.{FailWhy}
use Rattle.grid_types.specs.declared.entry.FailWhy.TheVariants as why
use Rattle.grid_types.specs.declared.names.Moment.{Moment}
use Rattle.grid_types.specs.declared.names.SlotId.{SlotId}
use Rattle.grid_types.specs.declared.capabilities.Cap.{Cap}
use Rattle.grid_types.specs.declared.capabilities.Registration.{Registration}
use Rattle.grid_types.specs.declared.view.Standing.{Standing}
use Rattle.grid_types.specs.declared.view.Standing.TheVariants as standing
use Rattle.grid_types.specs.Lists.{when}
use Rattle.grid_types.specs.History.{after, clock, last_told, next_request, nodes}
use Rattle.grid_types.specs.Nodes.{base_of, is_base_up, is_registered, is_spent, is_suspect, is_up, stands_registered, stands_up}
use Rattle.grid_types.specs.Slots.{free, held, slot_eq, holder}
use Rattle.grid_types.specs.Requests.{unsettled, unsettled_bytes, is_barred, is_reserved, is_settled, is_taken, outcome_of, asked_of}
use Rattle.grid_types.specs.Sessions.{is_live_session}
use Rattle.grid_types.specs.Capabilities.{request_bytes}
use Rattle.grid_types.specs.Matching.{meets}
use Rattle.grid_types.specs.Choice.{Assignment, chosen}
use Rattle.grid_types.specs.Permitted.{is_supported, most_bytes, permitted, wanted_of}
use Rattle.grid_types.specs.Legal.{legal}
use Rattle.grid_types.specs.Tokens.{Closing, Reservation, Ticket}
use Rattle.grid_types.specs.Calls.{Call, Reply}
use Rattle.grid_types.specs.HubAnswers.{Answer, after_call, bound_by, drain_after_bind, enqueued, hub, moment, polled, reserves}
use Rattle.grid_types.specs.Tables.{entry}
use Rattle.grid_types.specs.Told.{HoldsOne, Fits}
use Rattle.grid_types.specs.HistoryLaws.{Known, laws}
use Rattle.request_laws.specs.Starts.{is_tried, is_untried, registered_count, starts_left}
use Rattle.request_laws.specs.Laws.{GaveSlot}
use Rattle.request_laws.proofs.CountLemmas.{at_most_all, fewer, in_last, in_left, never, no_more}
use Rattle.request_laws.proofs.PollLemmas.{Yours, gave}

-- ---- where a request was started last

abbrev node_told : ℕ → Change → Option ℕ
node_told r (change.Reserved q s k at) = when (nat_eq q r) s.node
node_told r c = None

abbrev last_node : List Entry → ℕ → Option ℕ
last_node H r = last_told (λ _ e. node_told r e.change) H

-- a request that waits has no reservation
open_again : Known → (H : List Entry) (q : ℕ) (k : ℕ) (s : SlotId) (m : ℕ) → Fits H q k s m → is_reserved H q ≡ false
open_again proved H q k s m f = ((laws proved).waiting-parts (is_taken H q) (outcome_of H q) (is_reserved H q) (is_some (asked_of H q)) f.is_waiting).1

not_held : (r : ℕ) → free ≡ held r → ⊥
not_held r h = cc

-- where a slot is held for a request, it was started there last
held_last : Known → (c : HubConfig) (H : List Entry) (s : SlotId) (r : ℕ) → legal c H ≡ true → holder H s ≡ held r → last_node H r ≡ Some s.node
held_last proved c [] s r l h = absurd (not_held r h)
held_last proved c (e ∷ H) s r l h =
    by_change e.caller e.change ((laws proved).legal-permitted c e H l) ((laws proved).holds-one c H ((laws proved).legal-before c e H l)) (λ g. held_last proved c H s r ((laws proved).legal-before c e H l) g) h
  where
    by_change : (k : ℕ) (ch : Change) → permitted c H k ch ≡ true → HoldsOne H → (holder H s ≡ held r → last_node H r ≡ Some s.node) → holder (entry k ch ∷ H) s ≡ held r →
        last_node (entry k ch ∷ H) r ≡ Some s.node
    by_change k (change.Reserved q u choice at) p ones before h =
        elim (slot_eq u s) as (λ v. slot_eq u s ≡ v → last_node (entry k (change.Reserved q u choice at) ∷ H) r ≡ Some s.node) [
          | true ↦ λ e. let same : u ≡ s = (laws proved).slot_eq-is u s e in let one : q ≡ r = grind arith in grind arith
          | false ↦ λ e. elim (nat_eq q r) as (λ v. nat_eq q r ≡ v → last_node (entry k (change.Reserved q u choice at) ∷ H) r ≡ Some s.node) [
            | true ↦ λ f.
                let same : q ≡ r = grind arith in
                let was : holder H s ≡ held q = grind arith in
                let not_here : is_reserved H q ≡ false = open_again proved H q choice u at.0 ((laws proved).permitted-Reserved c H k q u choice at p) in
                absurd (never (sym not_here ∙ ones.reserved s q was))
            | false ↦ λ f. let was : last_node H r ≡ Some s.node = before (grind arith) in grind arith
          ] refl
        ] refl
    by_change k (change.Failed q u w o last at) p ones before h = before (elim (slot_eq u s) as (λ v. slot_eq u s ≡ v → holder H s ≡ held r) [
      | true ↦ λ e. absurd (grind arith)
      | false ↦ λ e. grind arith
    ] refl)
    by_change k (change.Bound q u x cs at) p ones before h = before (grind arith)
    by_change k (change.Freed u) p ones before h = before (grind arith)
    by_change k (change.Ended b cause at) p ones before h = before (grind arith)
    by_change k (change.Lapsed n at) p ones before h = before (grind arith)
    by_change k ch p ones before h = before h

-- a node on which a slot was reserved for a request is barred for it, or the request is there still
abbrev IsThere : List Entry → ℕ → ℕ → Type 0
IsThere H r n = (is_barred H r n ≡ true) ⊎ ((is_reserved H r ≡ true) × (last_node H r ≡ Some n))

some_is : (m n : ℕ) → Some m ≡ Some n → m ≡ n
some_is m n e = cc

tried_there : Known → (c : HubConfig) (H : List Entry) (r n : ℕ) → legal c H ≡ true → is_tried H r n ≡ true → IsThere H r n
tried_there proved c [] r n l h = absurd (never h)
tried_there proved c (e ∷ H) r n l h =
    by_change e.caller e.change ((laws proved).legal-permitted c e H l) ((laws proved).legal-before c e H l) (λ g. tried_there proved c H r n ((laws proved).legal-before c e H l) g) h
  where
    by_change : (k : ℕ) (ch : Change) → permitted c H k ch ≡ true → legal c H ≡ true → (is_tried H r n ≡ true → IsThere H r n) → is_tried (entry k ch ∷ H) r n ≡ true →
        IsThere (entry k ch ∷ H) r n
    by_change k (change.Reserved q u choice at) p ok before h =
        elim (nat_eq q r) as (λ v. nat_eq q r ≡ v → IsThere (entry k (change.Reserved q u choice at) ∷ H) r n) [
          | true ↦ λ e. elim (nat_eq u.node n) as (λ v. nat_eq u.node n ≡ v → IsThere (entry k (change.Reserved q u choice at) ∷ H) r n) [
            | true ↦ λ f. inr (grind arith, grind arith)
            | false ↦ λ f. by_before e (before (grind arith))
          ] refl
          | false ↦ λ e. still e (before (grind arith))
        ] refl
      where
        by_before : nat_eq q r ≡ true → IsThere H r n → IsThere (entry k (change.Reserved q u choice at) ∷ H) r n
        by_before e (inl barred) = inl (grind arith)
        by_before e (inr there) =
            let same : q ≡ r = grind arith in
            let not_here : is_reserved H q ≡ false = open_again proved H q choice u at.0 ((laws proved).permitted-Reserved c H k q u choice at p) in
            absurd (never (sym not_here ∙ subst (λ (x : ℕ). is_reserved H x ≡ true) (sym same) there.0))

        still : nat_eq q r ≡ false → IsThere H r n → IsThere (entry k (change.Reserved q u choice at) ∷ H) r n
        still e (inl barred) = inl (grind arith)
        still e (inr there) = inr (grind (arith, there.0), grind (arith, there.1))
    by_change k (change.Failed q u w o last at) p ok before h = by_before (before h)
      where
        by_before : IsThere H r n → IsThere (entry k (change.Failed q u w o last at) ∷ H) r n
        by_before (inl barred) = inl (grind arith)
        by_before (inr there) = elim (nat_eq q r) as (λ v. nat_eq q r ≡ v → IsThere (entry k (change.Failed q u w o last at) ∷ H) r n) [
          | true ↦ λ e.
              let same : q ≡ r = grind arith in
              let was : holder H u ≡ held r = subst (λ (x : ℕ). holder H u ≡ held x) same ((laws proved).permitted-Failed c H k q u w o last at p).holder in
              let node : u.node ≡ n = some_is u.node n (sym (held_last proved c H u r ok was) ∙ there.1) in
              inl (grind arith)
          | false ↦ λ e. inr (grind (arith, there.0), grind (arith, there.1))
        ] refl
    by_change k ch p ok before h = before h

-- ---- what is chosen

up_is_registered : (H : List Entry) (n : ℕ) → is_up H n ≡ true → is_registered H n ≡ true
up_is_registered H n h = by_base (base_of H n) (is_suspect H n) h
  where
    by_base : (o : Option Standing) (b : Bool) → stands_up (cond b (Some standing.Suspect) o) ≡ true → stands_registered o ≡ true
    by_base (Some standing.Up) false e = refl
    by_base o true e = absurd (never e)
    by_base None false e = absurd (never e)
    by_base (Some s) false e = grind arith

not_tried : (b : Bool) → (b ≡ true → ⊥) → not b ≡ true
not_tried true h = absurd (h refl)
not_tried false h = refl

both : (a b : Bool) → a ≡ true → b ≡ true → (a && b) ≡ true
both true true d e = refl
both false b d e = absurd (never d)
both true false d e = absurd (never e)

pub chosen_untried : Known → (c : HubConfig) (H : List Entry) (m : ℕ) (a : Assignment) → legal c H ≡ true → chosen H m ≡ Some a → is_untried H a.request a.slot.node ≡ true
chosen_untried proved c H m a l e = untried ((laws proved).fits-tells H a.request a.choice a.slot m ((laws proved).chosen-fits H m a e))
  where
    no_more_there : Fits H a.request a.choice a.slot m → IsThere H a.request a.slot.node → ⊥
    no_more_there f (inl barred) = never (sym f.not_barred ∙ barred)
    no_more_there f (inr there) = never (sym (open_again proved H a.request a.choice a.slot m f) ∙ there.0)

    untried : Fits H a.request a.choice a.slot m → is_untried H a.request a.slot.node ≡ true
    untried f = both (is_registered H a.slot.node) (not (is_tried H a.request a.slot.node)) (up_is_registered H a.slot.node f.is_up)
        (not_tried (is_tried H a.request a.slot.node) (λ h. no_more_there f (tried_there proved c H a.request a.slot.node l h)))

-- ---- nodes are few

base_up_registered : (H : List Entry) (n : ℕ) → is_base_up H n ≡ true → is_registered H n ≡ true
base_up_registered H n h = by_base (base_of H n) h
  where
    by_base : (o : Option Standing) → stands_up o ≡ true → stands_registered o ≡ true
    by_base (Some standing.Up) e = refl
    by_base None e = absurd (never e)
    by_base (Some s) e = grind arith

draining_up : (c : HubConfig) (H : List Entry) (k n : ℕ) (at : Moment) → permitted c H k (change.Draining n at) ≡ true → is_base_up H n ≡ true
unfolding permitted
draining_up c H k n at p = grind arith

registered_there : Known → (c : HubConfig) (H : List Entry) (n : ℕ) → legal c H ≡ true → is_registered H n ≡ true → list_any (λ x. nat_eq x n) (nodes H) ≡ true
registered_there proved c [] n l h = absurd (never h)
registered_there proved c (e ∷ H) n l h = by_change e.caller e.change ((laws proved).legal-permitted c e H l) (λ g. registered_there proved c H n ((laws proved).legal-before c e H l) g) h
  where
    by_change : (k : ℕ) (ch : Change) → permitted c H k ch ≡ true → (is_registered H n ≡ true → list_any (λ x. nat_eq x n) (nodes H) ≡ true) → is_registered (entry k ch ∷ H) n ≡ true →
        list_any (λ x. nat_eq x n) (nodes (entry k ch ∷ H)) ≡ true
    by_change k (change.Registered m r at) p before h = elim (nat_eq m n) as (λ v. nat_eq m n ≡ v → list_any (λ x. nat_eq x n) (nodes H ++ m ∷ []) ≡ true) [
      | true ↦ λ e. let same : m ≡ n = grind arith in subst (λ (y : ℕ). list_any (λ x. nat_eq x n) (nodes H ++ y ∷ []) ≡ true) (sym same) (in_last n (nodes H))
      | false ↦ λ e. in_left n (nodes H) (m ∷ []) (before (grind arith))
    ] refl
    by_change k (change.Draining m at) p before h = before (elim (nat_eq m n) as (λ v. nat_eq m n ≡ v → is_registered H n ≡ true) [
      | true ↦ λ e. let same : m ≡ n = grind arith in subst (λ (y : ℕ). is_registered H y ≡ true) same (base_up_registered H m (draining_up c H k m at p))
      | false ↦ λ e. grind arith
    ] refl)
    by_change k (change.Removed m at) p before h = before (grind arith)
    by_change k (change.Lapsed m at) p before h = before (grind arith)
    by_change k ch p before h = before h

pub registered : (H : List Entry) (q : ℕ) → starts_left H q ≤ registered_count H
registered H q = no_more (is_registered H) (is_untried H q) (nodes H) (λ n e. left (is_registered H n) (not (is_tried H q n)) e)
  where
    left : (a b : Bool) → (a && b) ≡ true → a ≡ true
    left true b e = refl
    left false b e = e

next_is_small : (c : HubConfig) (H : List Entry) (k n : ℕ) (r : Registration) (at : Moment) → permitted c H k (change.Registered n r at) ≡ true → n < 2 ^ 32
unfolding permitted
next_is_small c H k n r at p = let small : nat_lt n (2 ^ 32 - 1) ≡ true = grind arith in grind arith

few_nodes : Known → (c : HubConfig) (H : List Entry) → legal c H ≡ true → length (nodes H) ≤ 2 ^ 32
few_nodes proved c [] l = omega arith
few_nodes proved c (e ∷ H) l = by_change e.caller e.change ((laws proved).legal-permitted c e H l) (few_nodes proved c H ((laws proved).legal-before c e H l))
  where
    by_change : (k : ℕ) (ch : Change) → permitted c H k ch ≡ true → length (nodes H) ≤ 2 ^ 32 → length (nodes (entry k ch ∷ H)) ≤ 2 ^ 32
    by_change k (change.Registered m r at) p before =
        let next : m ≡ c.first_node + length (nodes H) = (laws proved).permitted-Registered c H k m r at p in
        let longer : length (nodes H ++ m ∷ []) ≡ length (nodes H) + 1 = length-append (nodes H) (m ∷ []) in
        let small : m < 2 ^ 32 = next_is_small c H k m r at p in
        omega (arith, next, longer, small)
    by_change k ch p before = before

pub few : Known → (c : HubConfig) (H : List Entry) → legal c H ≡ true → registered_count H ≤ 2 ^ 32
few proved c H l = omega (arith, at_most_all (is_registered H) (nodes H), few_nodes proved c H l)

-- ---- what calls do

-- a slot of a new node is reserved
reserved_fewer : Known → (c : HubConfig) (H : List Entry) (k m : ℕ) (a : Assignment) → legal c H ≡ true → chosen H m ≡ Some a →
    starts_left (after H k (reserves m a ∷ [])) a.request < starts_left H a.request
reserved_fewer proved c H k m a l e =
    fewer (is_untried H a.request) (is_untried (after H k (reserves m a ∷ [])) a.request) (nodes H) a.slot.node
    (λ n h. was (is_registered H n) (nat_eq a.request a.request && nat_eq a.slot.node n) (is_tried H a.request n) h)
    (registered_there proved c H a.slot.node l (left (is_registered H a.slot.node) (not (is_tried H a.request a.slot.node)) (chosen_untried proved c H m a l e)))
    (chosen_untried proved c H m a l e)
    (gone (is_registered H a.slot.node) (nat_eq a.request a.request) (nat_eq a.slot.node a.slot.node) (is_tried H a.request a.slot.node) (same a.request) (same a.slot.node))
  where
    left : (x y : Bool) → (x && y) ≡ true → x ≡ true
    left true y h = refl
    left false y h = h

    was : (x y z : Bool) → (x && not (y || z)) ≡ true → (x && not z) ≡ true
    was true false z h = h
    was true true z h = absurd (never h)
    was false y z h = h

    gone : (x y z w : Bool) → y ≡ true → z ≡ true → (x && not ((y && z) || w)) ≡ false
    gone true true true w h g = refl
    gone false true true w h g = refl
    gone x false z w h g = absurd (never h)
    gone x true false w h g = absurd (never g)

    same : (n : ℕ) → nat_eq n n ≡ true
    same n = grind arith

pub yours : Known → (c : HubConfig) (H : List Entry) (k : ℕ) (t u : Ticket) (r : Reservation) (at : ℕ) → legal c H ≡ true →
    (hub c H k (Call.poll t) at).reply ≡ Reply.yours u r → GaveSlot c H k t at u
unfolding hub
yours proved c H k t u r at l e = by_gave (gave H k t.request (max at (clock H)) (outcome_of H t.request) u r e)
  where
    by_gave : Yours H k t.request (max at (clock H)) (polled H k t.request (max at (clock H)) (outcome_of H t.request)).changes u → GaveSlot c H k t at u
    by_gave y = record {
      same_request = y.ticket_is;
      fewer = subst (λ (cs : List Change). starts_left (after H k cs) t.request < starts_left H t.request) (sym y.changes_are)
          (subst (λ (q : ℕ). starts_left (after H k (reserves (max at (clock H)) y.a ∷ [])) q < starts_left H q) y.request_is
          (reserved_fewer proved c H k (max at (clock H)) y.a l y.is_chosen));
    }

-- a node that drains stays registered, and no other change of these opens a node
drained_no_more : (H : List Entry) (k n m q : ℕ) (b : Bool) → (b ≡ true → is_base_up H n ≡ true) →
    starts_left (after H k (cond b (change.Draining n (moment m) ∷ []) [])) q ≤ starts_left H q
drained_no_more H k n m q false up = omega arith
drained_no_more H k n m q true up =
    no_more (is_untried H q) (is_untried (after H k (change.Draining n (moment m) ∷ [])) q) (nodes H)
    (λ x h. was x (nat_eq n x) refl (is_tried H q x) h)
  where
    was : (x : ℕ) (v : Bool) → nat_eq n x ≡ v → (w : Bool) → (is_registered (after H k (change.Draining n (moment m) ∷ [])) x && not w) ≡ true → (is_registered H x && not w) ≡ true
    was x true e w h = let same : n ≡ x = grind arith in
        let there : is_registered H x ≡ true = subst (λ (y : ℕ). is_registered H y ≡ true) same (base_up_registered H n (up refl)) in
        grind arith
    was x false e w h = grind arith

and_second : (a b : Bool) → (a && b) ≡ true → b ≡ true
and_second true b e = e
and_second false b e = absurd (never e)

-- a bind, by its four causes
abbrev bind_by : List Entry → ℕ → ℕ → SlotId → List ℕ → List Cap → ℕ → (settled there live met : Bool) → Answer
bind_by H k r s x caps m settled there live met =
    bound_by H k r s x caps m (cond settled (Some why.Late) (cond (not there) (Some why.NodeGone) (cond live (Some why.Duplicate)
    (cond (not met) (Some why.Mismatch) None))))

bound_no_more : (H : List Entry) (k r : ℕ) (s : SlotId) (x : List ℕ) (caps : List Cap) (m q : ℕ) (settled there live met : Bool) →
    starts_left (after H k (bind_by H k r s x caps m settled there live met).changes) q ≤ starts_left H q
bound_no_more H k r s x caps m q true there live met = omega arith
bound_no_more H k r s x caps m q false false live met = omega arith
bound_no_more H k r s x caps m q false true true met = omega arith
bound_no_more H k r s x caps m q false true false false = omega arith
bound_no_more H k r s x caps m q false true false true = by_drain (after H k (change.Bound r s x caps (moment m) ∷ []))
  where
    by_drain : (G : List Entry) → starts_left (after G k (drain_after_bind G s.node m)) q ≤ starts_left G q
    by_drain G = drained_no_more G k s.node m q (is_spent G s.node && is_base_up G s.node) (λ e. and_second (is_spent G s.node) (is_base_up G s.node) e)

pub bind : (c : HubConfig) (H : List Entry) (k : ℕ) (r : Reservation) (session : List ℕ) (caps : List Cap) (at q : ℕ) →
    starts_left (after_call c H k (Call.bind r session caps) at) q ≤ starts_left H q
unfolding hub
bind c H k r session caps at q =
    bound_no_more H k r.request r.slot session caps (max at (clock H)) q (is_settled H r.request) (is_registered H r.slot.node) (is_live_session H session)
    (meets (wanted_of H r.request r.slot) caps)

pub fail : (c : HubConfig) (H : List Entry) (k : ℕ) (r : Reservation) (w : FailWhy) (at q : ℕ) → starts_left (after_call c H k (Call.fail r w) at) q ≤ starts_left H q
unfolding hub
fail c H k r w at q = same (starts_left H q)
  where
    same : (n : ℕ) → n ≤ n
    same n = omega arith

pub freed : (c : HubConfig) (H : List Entry) (k : ℕ) (x : Closing) (at q : ℕ) → starts_left (after_call c H k (Call.freed x) at) q ≤ starts_left H q
unfolding hub
freed c H k x at q = same (starts_left H q)
  where
    same : (n : ℕ) → n ≤ n
    same n = omega arith

queued_none : (H : List Entry) (k : ℕ) (b : Bool) (x y : Answer) → registered_count (after H k x.changes) ≤ registered_count H → registered_count (after H k y.changes) ≤ registered_count H →
    registered_count (after H k (cond b x y).changes) ≤ registered_count H
queued_none H k true x y p q = p
queued_none H k false x y p q = q

queues_none : (c : HubConfig) (H : List Entry) (k : ℕ) (choices : List (List Cap)) (m : ℕ) → registered_count (after H k (enqueued c H choices m).changes) ≤ registered_count H
queues_none c H k choices m =
    queued_none H k (nat_le (2 ^ 64 - 1) (next_request c H)) _ _ (same (registered_count H))
    (queued_none H k (c.reject_unsupported && not (is_supported H choices)) _ _ (same (registered_count H))
    (queued_none H k (nat_le c.queue_requests (length (unsettled H)) || nat_lt most_bytes (unsettled_bytes H + request_bytes choices)) _ _ (same (registered_count H))
    (same (registered_count H))))
  where
    same : (n : ℕ) → n ≤ n
    same n = omega arith

pub queues : (c : HubConfig) (H : List Entry) (k : ℕ) (choices : List (List Cap)) (at : ℕ) → registered_count (after_call c H k (Call.enqueue choices) at) ≤ registered_count H
unfolding hub
queues c H k choices at = queues_none c H k choices (max at (clock H))
