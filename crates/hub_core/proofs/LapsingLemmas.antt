-- What a sweep publishes: the removals of the sessions on the nodes that lapse, node after node.
use Rattle.std.proofs.Common.{◌≡◌, ◌∙◌, ℕ, ◌+◌, Bool, true, false, cond, ◌&&◌, max, List, [], ◌∷◌, ◌++◌, map, filter, refl, subst, sym, ap, arith, append_assoc, append-nil}
use Rattle.std.specs.Prelude.{None, Some, nat_eq, nat_le, find, filter_map}
use Rattle.std.specs.List.{AllByRecursion, cons_option}
use Rattle.std.specs.List.Sorted.{IsStrictlySortedBy}
use Rattle.std.specs.Ordering.{nat_cmp}
use Rattle.std.specs.declared.cmp.Ordering.TheVariants.{Less}
use Rattle.std.proofs.lemmas.List.Kept.{IsStrictlySortedBy-filter}
use Rattle.grid_types.specs.declared.entry.Entry.{Entry}
use Rattle.grid_types.specs.declared.entry.Change.{Change}
use Rattle.grid_types.specs.declared.entry.Change.TheVariants as change
use Rattle.grid_types.specs.declared.names.Moment.{Moment}
use Rattle.grid_types.specs.declared.names.SlotId.{SlotId}
use Rattle.grid_types.specs.declared.config.HubConfig.{HubConfig}
use Rattle.grid_types.specs.History.{after, clock, nodes}
use Rattle.grid_types.specs.Nodes.{is_registered}
use Rattle.grid_types.specs.Slots.{Holder, holder, slots_of}
use Rattle.grid_types.specs.Legal.{legal}
use Rattle.grid_types.specs.Tables.{entry}
use Rattle.grid_types.specs.Calls.{Call}
use Rattle.grid_types.specs.HubAnswers.{hub, after_call, moment, lapsed_nodes, lapses, suspicions, time_outs, removals}
use Rattle.grid_types.specs.LookupMap.{Item, removal, session_in, sessions_on, published, changes}
use Rattle.grid_types.specs.HistoryLaws.{Known}
use Rattle.reservation.specs.declared.slot_use.SlotUse.{SlotUse}
use Rattle.reservation.specs.Table.{holder_of}
use Rattle.hub_core.specs.declared.hub.HubCore.{HubCore}
use Rattle.hub_core.specs.CoreStands.{Stands, CoreTells}
use Rattle.hub_core.specs.Ahead.{Publishes, removals_of, all_on, busy_in}
use Rattle.hub_core.proofs.SilentLemmas.{AllSilent, silent-after, silent-map}
use Rattle.hub_core.proofs.WalkLemmas.{find-front, find-empty, all-from_zero}
use Rattle.hub_core.proofs.CoreSweepLemmas.{nodes-ascend}

after-append : (H : List Entry) (k : ℕ) (xs ys : List Change) → after H k (xs ++ ys) ≡ after (after H k xs) k ys
after-append H k [] ys = refl
after-append H k (x ∷ xs) ys = after-append (entry k x ∷ H) k xs ys

published-append : (M xs ys : List Item) → published M (xs ++ ys) ≡ published (published M xs) ys
published-append M [] ys = refl
published-append M (x ∷ xs) ys = published-append (x ∷ M) xs ys

removals-append : (xs ys : List (List ℕ)) → removals_of (xs ++ ys) ≡ removals_of xs ++ removals_of ys
removals-append [] ys = refl
removals-append (x ∷ xs) ys = ap (λ (z : List Item). removal x ∷ z) (removals-append xs ys)

-- a lapse of one node leaves the slots of another as they were
other-free : (H : List Entry) (k n m i : ℕ) (at : Moment) → nat_eq n m ≡ false → holder (entry k (change.Lapsed n at) ∷ H) (record { node = m; index = i }) ≡ holder H (record { node = m; index = i })
other-free H k n m i at e = rw e refl

sessions-kept : (H : List Entry) (k n m : ℕ) (at : Moment) (is : List ℕ) → nat_eq n m ≡ false →
    filter_map (λ s. session_in (holder (entry k (change.Lapsed n at) ∷ H) s)) (map (λ i. record { node = m; index = i }) is) ≡ filter_map (λ s. session_in (holder H s)) (map (λ i. record { node = m; index = i }) is)
sessions-kept H k n m at [] e = refl
sessions-kept H k n m at (i ∷ is) e = rw (other-free H k n m i at e, sessions-kept H k n m at is e) refl

on-kept : (H : List Entry) (k n m : ℕ) (at : Moment) → nat_eq n m ≡ false → sessions_on (entry k (change.Lapsed n at) ∷ H) m ≡ sessions_on H m
on-kept H k n m at e = sessions-kept H k n m at _ e

less-apart : (n m : ℕ) → nat_cmp n m ≡ Less → nat_eq n m ≡ false
less-apart n m h = grind arith

all-kept : (H : List Entry) (k n : ℕ) (at : Moment) (ns : List ℕ) → AllByRecursion (λ m. nat_cmp n m ≡ Less) ns → all_on (entry k (change.Lapsed n at) ∷ H) ns ≡ all_on H ns
all-kept H k n at [] a = refl
all-kept H k n at (m ∷ ns) a =
    ap (λ (z : List (List ℕ)). z ++ all_on (entry k (change.Lapsed n at) ∷ H) ns) (on-kept H k n m at (less-apart n m a.0))
    ∙ ap (λ (z : List (List ℕ)). sessions_on H m ++ z) (all-kept H k n at ns a.1)

lapsed-one : (H : List Entry) (k n : ℕ) (at : Moment) → changes (entry k (change.Lapsed n at) ∷ H) ≡ published (changes H) (removals_of (sessions_on H n))
lapsed-one H k n at = refl

-- the nodes lapse one after the other
lapsed-changes : (H : List Entry) (k : ℕ) (at : Moment) (ns : List ℕ) → IsStrictlySortedBy nat_cmp ns → changes (after H k (map (λ n. change.Lapsed n at) ns)) ≡ published (changes H) (removals_of (all_on H ns))
unfolding IsStrictlySortedBy
lapsed-changes H k at [] s = refl
lapsed-changes H k at (n ∷ ns) s =
    lapsed-changes (entry k (change.Lapsed n at) ∷ H) k at ns s.1
    ∙ (ap (λ (z : List (List ℕ)). published (changes (entry k (change.Lapsed n at) ∷ H)) (removals_of z)) (all-kept H k n at ns s.0)
    ∙ (sym (published-append (changes H) (removals_of (sessions_on H n)) (removals_of (all_on H ns)))
    ∙ ap (published (changes H)) (sym (removals-append (sessions_on H n) (all_on H ns)))))

lapsed-ascend : Known → (c : HubConfig) (H : List Entry) (m : ℕ) → legal c H ≡ true → IsStrictlySortedBy nat_cmp (lapsed_nodes c H m)
lapsed-ascend proved c H m l = IsStrictlySortedBy-filter nat_cmp _ (nodes H) (nodes-ascend proved c H l)

swept-after : (c : HubConfig) (H : List Entry) (k at : ℕ) →
    after_call c H k Call.sweep at ≡ after H k
    (((lapses c H (max at (clock H)) ++ suspicions c (after H k (lapses c H (max at (clock H)))) (max at (clock H))) ++ time_outs H (max at (clock H)))
    ++ removals (after H k (lapses c H (max at (clock H)))) (max at (clock H)))
unfolding hub
swept-after c H k at = refl

-- what publishes nothing stands behind the others
silent-behind : (H : List Entry) (k : ℕ) (xs ys : List Change) → AllSilent ys → changes (after H k (xs ++ ys)) ≡ changes (after H k xs)
silent-behind H k xs ys s = ap changes (after-append H k xs ys) ∙ silent-after (after H k xs) k ys s

pub sweep-publishes : Known → (c : HubConfig) (H : List Entry) (k at : ℕ) → legal c H ≡ true → Publishes c H k Call.sweep at (removals_of (all_on H (lapsed_nodes c H (max at (clock H)))))
sweep-publishes proved c H k at l =
    let m : ℕ = max at (clock H) in
    let later : List Entry = after H k (lapses c H m) in
    ap changes (swept-after c H k at)
    ∙ (silent-behind H k ((lapses c H m ++ suspicions c later m) ++ time_outs H m) (removals later m) (silent-map _ _ (λ n L. refl))
    ∙ (silent-behind H k (lapses c H m ++ suspicions c later m) (time_outs H m) (silent-map _ _ (λ r L. refl))
    ∙ (silent-behind H k (lapses c H m) (suspicions c later m) (silent-map _ _ (λ n L. refl))
    ∙ lapsed-changes H k (moment m) (lapsed_nodes c H m) (lapsed-ascend proved c H m l))))

fused : {X : Type 0} (f : X → Holder) (xs : List X) → filter_map (λ x. session_in (f x)) xs ≡ filter_map session_in (map f xs)
fused f [] = refl
fused f (x ∷ xs) = ap (cons_option (session_in (f x))) (fused f xs)

-- the sessions of a node, by the uses of its slots
busy-of : (uses : List SlotUse) (H : List Entry) (slots : List SlotId) → map holder_of uses ≡ map (holder H) slots → busy_in uses ≡ filter_map (λ s. session_in (holder H s)) slots
busy-of uses H slots e = fused holder_of uses ∙ (ap (filter_map session_in) e ∙ sym (fused (holder H) slots))

pub on-node : (core : HubCore) (node : ℕ) (uses : List SlotUse) (old new : List (List ℕ)) → ((H : List Entry) → Stands core H → is_registered H node ≡ true → map holder_of uses ≡ map (holder H) (slots_of H node)) → new ≡ old ++ busy_in uses →
    CoreTells core (λ H. is_registered H node ≡ true → new ≡ old ++ sessions_on H node)
on-node core node uses old new tells e = record { of = λ H s r. e ∙ ap (λ (z : List (List ℕ)). old ++ z) (busy-of uses H (slots_of H node) (tells H s r)) }

-- on the way through the nodes that lapse: what was found, and what is to come
abbrev pub Comes : HubConfig → ℕ → ℕ → List (List ℕ) → List Entry → Type 0
Comes c m from found H = found ++ all_on H (filter (nat_le from) (lapsed_nodes c H m)) ≡ all_on H (lapsed_nodes c H m)

pub comes-first : (c : HubConfig) (m : ℕ) (H : List Entry) → Comes c m 0 [] H
comes-first c m H = ap (all_on H) (all-from_zero (lapsed_nodes c H m))

passed : (p q : Bool) → (p && q) ≡ true → p ≡ true
passed true q h = refl
passed false q h = absurd (cc)

found-in : (p q : ℕ → Bool) (xs : List ℕ) (n : ℕ) → find p (filter q xs) ≡ Some n → q n ≡ true
found-in p q [] n h = absurd (cc)
found-in p q (x ∷ xs) n h = by_test (q x) refl h (found-in p q xs n)
  where
    by_found : (w : Bool) → q x ≡ true → cond w (Some x) (find p (filter q xs)) ≡ Some n → (find p (filter q xs) ≡ Some n → q n ≡ true) → q n ≡ true
    by_found true e g rest = let same : x ≡ n = cc in subst (λ (z : ℕ). q z ≡ true) same e
    by_found false e g rest = rest g

    by_test : (v : Bool) → q x ≡ v → find p (cond v (x ∷ filter q xs) (filter q xs)) ≡ Some n → (find p (filter q xs) ≡ Some n → q n ≡ true) → q n ≡ true
    by_test true e g rest = by_found (p x) e g rest
    by_test false e g rest = rest g

pub lapsed-registered : (c : HubConfig) (H : List Entry) (m from n : ℕ) → find (nat_le from) (lapsed_nodes c H m) ≡ Some n → is_registered H n ≡ true
lapsed-registered c H m from n h = passed _ _ (found-in (nat_le from) _ (nodes H) n h)

pub comes-next : Known → (c : HubConfig) (m from n : ℕ) (found more : List (List ℕ)) (H : List Entry) → legal c H ≡ true → find (nat_le from) (lapsed_nodes c H m) ≡ Some n → Comes c m from found H → more ≡ found ++ sessions_on H n → Comes c m (n + 1) more H
comes-next proved c m from n found more H l h way e =
    let front = find-front from n (lapsed_nodes c H m) (lapsed-ascend proved c H m l) h in
    ap (λ (z : List (List ℕ)). z ++ all_on H (filter (nat_le (n + 1)) (lapsed_nodes c H m))) e
    ∙ (append_assoc found (sessions_on H n) (all_on H (filter (nat_le (n + 1)) (lapsed_nodes c H m)))
    ∙ (sym (ap (λ (ns : List ℕ). found ++ all_on H ns) front) ∙ way))

pub comes-last : (c : HubConfig) (m from : ℕ) (found : List (List ℕ)) (H : List Entry) → find (nat_le from) (lapsed_nodes c H m) ≡ None → Comes c m from found H → found ≡ all_on H (lapsed_nodes c H m)
comes-last c m from found H none way = sym (append-nil found) ∙ (sym (ap (λ (ns : List ℕ). found ++ all_on H ns) (find-empty (nat_le from) (lapsed_nodes c H m) none)) ∙ way)
