-- Changes of one kind, one for each number, are permitted one after the other: a sweep and a clearing.
use Rattle.std.proofs.Common.{◌≡◌, ℕ, ◌-◌, max, Bool, true, false, not, ◌&&◌, List, [], ◌∷◌, ◌++◌, map, refl, arith}
use Rattle.std.specs.Prelude.{Option, Some, nat_eq, nat_le}
use Rattle.std.specs.List.{list_any, list_all}
use Rattle.grid_types.specs.declared.entry.Entry.{Entry}
use Rattle.grid_types.specs.declared.entry.Change.{Change}
use Rattle.grid_types.specs.declared.entry.Change.TheVariants as change
use Rattle.grid_types.specs.declared.view.Standing.{Standing}
use Rattle.grid_types.specs.declared.view.Standing.TheVariants as standing
use Rattle.grid_types.specs.declared.config.HubConfig.{HubConfig}
use Rattle.grid_types.specs.History.{after, clock, moment_of, nodes, requests}
use Rattle.grid_types.specs.Nodes.{stands_draining, stands_registered, is_draining, is_registered, is_suspect, beat_of, base_of}
use Rattle.grid_types.specs.Slots.{has_slot_in_use}
use Rattle.grid_types.specs.Requests.{place, is_waiting, is_unsettled, deadline_of, unsettled, waiting_requests}
use Rattle.grid_types.specs.Permitted.{permitted}
use Rattle.grid_types.specs.Legal.{legal}
use Rattle.grid_types.specs.HubAnswers.{Answer, moment, cleared, lapses, lapsed_nodes, suspicions, silent_nodes, overdue_requests, time_outs, drained_nodes, removals, swept}
use Rattle.grid_types.specs.Lists.{is_distinct}
use Rattle.grid_types.proofs.ListLemmas.{or_left, or_right, all-filter, all-passed, and_left, and_right, distinct-filter}
use Rattle.grid_types.proofs.SessionLemmas.{entry}
use Rattle.grid_types.proofs.HeldLemmas.{nodes-distinct, requests-distinct}

-- a history stays legal where nothing is added, or one permitted change
pub both : (a b : Bool) → a ≡ true → b ≡ true → (a && b) ≡ true
both a b p q = grind arith

-- the answer leaves a legal history
abbrev pub StaysLegal : HubConfig → List Entry → ℕ → Answer → Type 0
StaysLegal c H k a = legal c (after H k a.changes) ≡ true

pub still : (m clock : ℕ) → nat_le clock m ≡ true → nat_le (max m clock) m ≡ true
still m clock h = grind arith

not_is : (b : Bool) → not b ≡ true → b ≡ false
not_is b h = grind arith

all-both : {X : Type 0} (p q : X → Bool) (xs : List X) → list_all p xs ≡ true → list_all q xs ≡ true → list_all (λ x. p x && q x) xs ≡ true
all-both p q [] h g = refl
all-both p q (x ∷ xs) h g = grind (arith, all-both p q xs)

all-left : {X : Type 0} (p q : X → Bool) (xs : List X) → list_all (λ x. p x && q x) xs ≡ true → list_all p xs ≡ true
all-left p q [] h = refl
all-left p q (x ∷ xs) h = grind (arith, all-left p q xs)

draining-registered : (o : Option Standing) → stands_draining o ≡ true → stands_registered o ≡ true
draining-registered (Some standing.Draining) h = refl
draining-registered o h = cc

-- changes of one kind, one for each number
module _ (c : HubConfig) (k m : ℕ) (mk : ℕ → Change) (ok : List Entry → ℕ → Bool)
    (time : (n : ℕ) → moment_of (mk n) ≡ Some m)
    (allows : (G : List Entry) (n : ℕ) → nat_le (clock G) m ≡ true → ok G n ≡ true → permitted c G k (mk n) ≡ true)
    (keeps : (G : List Entry) (n o : ℕ) → nat_eq n o ≡ false → ok G o ≡ true → ok (entry k (mk n) ∷ G) o ≡ true) where
  all_kept : (G : List Entry) (n : ℕ) (ns : List ℕ) → list_any (nat_eq n) ns ≡ false → list_all (ok G) ns ≡ true → list_all (ok (entry k (mk n) ∷ G)) ns ≡ true
  all_kept G n [] other h = refl
  all_kept G n (o ∷ ns) other h =
      both _ _ (keeps G n o (or_left _ _ other) (and_left _ _ h)) (all_kept G n ns (or_right _ _ other) (and_right _ _ h))

  pub each-legal : (ns : List ℕ) (G : List Entry) → legal c G ≡ true → nat_le (clock G) m ≡ true → list_all (ok G) ns ≡ true → is_distinct ns ≡ true →
      (legal c (after G k (map mk ns)) ≡ true) × (nat_le (clock (after G k (map mk ns))) m ≡ true)
  each-legal [] G l t h d = (l, t)
  each-legal (n ∷ ns) G l t h d =
      let next : legal c (entry k (mk n) ∷ G) ≡ true = both _ _ l (allows G n t (and_left _ _ h)) in
      let stays : nat_le (clock (entry k (mk n) ∷ G)) m ≡ true = rw (time n) (still m (clock G) t) in
      let other : list_any (nat_eq n) ns ≡ false = not_is _ (and_left _ _ d) in
      each-legal ns (entry k (mk n) ∷ G) next stays (all_kept G n ns other (and_right _ _ h)) (and_right _ _ d)

-- a test of numbers that these changes leave as it is
module _ (k : ℕ) (mk : ℕ → Change) (ok : List Entry → ℕ → Bool) (keeps : (G : List Entry) (n o : ℕ) → ok G o ≡ true → ok (entry k (mk n) ∷ G) o ≡ true) where
  pub kept-after : (ns : List ℕ) (G : List Entry) (o : ℕ) → ok G o ≡ true → ok (after G k (map mk ns)) o ≡ true
  kept-after [] G o h = h
  kept-after (n ∷ ns) G o h = kept-after ns (entry k (mk n) ∷ G) o (keeps G n o h)

  pub all-after : (ns os : List ℕ) (G : List Entry) → list_all (ok G) os ≡ true → list_all (ok (after G k (map mk ns))) os ≡ true
  all-after ns [] G h = refl
  all-after ns (o ∷ os) G h = both _ _ (kept-after ns G o (and_left _ _ h)) (all-after ns os G (and_right _ _ h))

after-append : (G : List Entry) (k : ℕ) (xs ys : List Change) → after G k (xs ++ ys) ≡ after (after G k xs) k ys
after-append G k [] ys = refl
after-append G k (x ∷ xs) ys = after-append (entry k x ∷ G) k xs ys

-- clear
pub clear-legal : (c : HubConfig) (H : List Entry) (k m : ℕ) → legal c H ≡ true → nat_le (clock H) m ≡ true → StaysLegal c H k (cleared H m)
unfolding permitted
clear-legal c H k m l t = (each-legal c k m (λ r. change.Cleared r (moment m)) (λ G r. is_waiting (place G r)) (λ n. refl) (λ G n u h. both _ _ u h) keeps
    (waiting_requests H) H l t (all-passed (λ r. is_waiting (place H r)) (requests H)) (distinct-filter (λ r. is_waiting (place H r)) (requests H) (requests-distinct c H l).0)).0
  where
    keeps : (G : List Entry) (n o : ℕ) → nat_eq n o ≡ false → is_waiting (place G o) ≡ true → is_waiting (place (entry k (change.Cleared n (moment m)) ∷ G) o) ≡ true
    keeps G n o other h = rw other h

-- sweep
lapses-legal : (c : HubConfig) (H : List Entry) (k m : ℕ) → legal c H ≡ true → nat_le (clock H) m ≡ true → (legal c (after H k (lapses c H m)) ≡ true) × (nat_le (clock (after H k (lapses c H m))) m ≡ true)
unfolding permitted
lapses-legal c H k m l t = each-legal c k m (λ n. change.Lapsed n (moment m)) (λ G n. is_registered G n && nat_le c.down_ms (m - beat_of G n)) (λ n. refl) allows keeps
    (lapsed_nodes c H m) H l t (all-passed (λ n. is_registered H n && nat_le c.down_ms (m - beat_of H n)) (nodes H)) (distinct-filter (λ n. is_registered H n && nat_le c.down_ms (m - beat_of H n)) (nodes H) (nodes-distinct c H l).0)
  where
    allows : (G : List Entry) (n : ℕ) → nat_le (clock G) m ≡ true → (is_registered G n && nat_le c.down_ms (m - beat_of G n)) ≡ true → permitted c G k (change.Lapsed n (moment m)) ≡ true
    allows G n u h = grind arith

    keeps : (G : List Entry) (n o : ℕ) → nat_eq n o ≡ false → (is_registered G o && nat_le c.down_ms (m - beat_of G o)) ≡ true → (is_registered (entry k (change.Lapsed n (moment m)) ∷ G) o && nat_le c.down_ms (m - beat_of (entry k (change.Lapsed n (moment m)) ∷ G) o)) ≡ true
    keeps G n o other h = rw other h

is_overdue : ℕ → List Entry → ℕ → Bool
is_overdue m G r = is_unsettled (place G r) && nat_le (deadline_of G r) m

overdue-listed : (H : List Entry) (m : ℕ) → list_all (is_overdue m H) (overdue_requests H m) ≡ true
unfolding is_overdue
overdue-listed H m = all-both (λ r. is_unsettled (place H r)) (λ r. nat_le (deadline_of H r) m) (overdue_requests H m)
    (all-filter (λ r. is_unsettled (place H r)) (λ r. nat_le (deadline_of H r) m) (unsettled H) (all-passed (λ r. is_unsettled (place H r)) (requests H)))
    (all-passed (λ r. nat_le (deadline_of H r) m) (unsettled H))

time_outs-legal : (c : HubConfig) (G : List Entry) (k m : ℕ) (rs : List ℕ) → legal c G ≡ true → nat_le (clock G) m ≡ true → list_all (is_overdue m G) rs ≡ true → is_distinct rs ≡ true →
    (legal c (after G k (map (λ r. change.TimedOut r (moment m)) rs)) ≡ true) × (nat_le (clock (after G k (map (λ r. change.TimedOut r (moment m)) rs))) m ≡ true)
unfolding permitted is_overdue
time_outs-legal c G k m rs l t h d = each-legal c k m (λ r. change.TimedOut r (moment m)) (is_overdue m) (λ n. refl) (λ F n u g. grind arith) (λ F n o other g. rw other g) rs G l t h d

removals-legal : (c : HubConfig) (G : List Entry) (k m : ℕ) (ns : List ℕ) → legal c G ≡ true → nat_le (clock G) m ≡ true → list_all (is_draining G) ns ≡ true → is_distinct ns ≡ true →
    (legal c (after G k (map (λ n. change.Removed n (moment m)) ns)) ≡ true) × (nat_le (clock (after G k (map (λ n. change.Removed n (moment m)) ns))) m ≡ true)
unfolding permitted
removals-legal c G k m ns l t h d = each-legal c k m (λ n. change.Removed n (moment m)) is_draining (λ n. refl) (λ F n u g. both _ _ u (draining-registered (base_of F n) g)) (λ F n o other g. rw other g) ns G l t h d

-- silent: registered, not suspect, and without a beat for so long
is_silent : HubConfig → ℕ → List Entry → ℕ → Bool
is_silent c m G n = is_registered G n && not (is_suspect G n) && nat_le c.lapse_ms (m - beat_of G n)

both_three : (a b c d : Bool) → a ≡ true → (b && c && d) ≡ true → (a && b && c && d) ≡ true
both_three true b c d p q = q
both_three false b c d p q = cc

suspicions-legal : (c : HubConfig) (H : List Entry) (k m : ℕ) → legal c H ≡ true → nat_le (clock H) m ≡ true → (legal c (after H k (suspicions c H m)) ≡ true) × (nat_le (clock (after H k (suspicions c H m))) m ≡ true)
unfolding permitted is_silent
suspicions-legal c H k m l t = each-legal c k m (λ n. change.Suspected n (moment m)) (is_silent c m) (λ n. refl) (λ G n u h. both_three _ (is_registered G n) (not (is_suspect G n)) _ u h) keeps
    (silent_nodes c H m) H l t (all-passed (is_silent c m H) (nodes H)) (distinct-filter (is_silent c m H) (nodes H) (nodes-distinct c H l).0)
  where
    keeps : (G : List Entry) (n o : ℕ) → nat_eq n o ≡ false → is_silent c m G o ≡ true → is_silent c m (entry k (change.Suspected n (moment m)) ∷ G) o ≡ true
    keeps G n o other h = rw other h

pub sweep-legal : (c : HubConfig) (H : List Entry) (k m : ℕ) → legal c H ≡ true → nat_le (clock H) m ≡ true → StaysLegal c H k (swept c H k m)
unfolding is_overdue
sweep-legal c H k m l t =
    let lapsed : (legal c lapsed_history ≡ true) × (nat_le (clock lapsed_history) m ≡ true) = lapses-legal c H k m l t in
    let suspected : (legal c suspected_history ≡ true) × (nat_le (clock suspected_history) m ≡ true) = suspicions-legal c lapsed_history k m lapsed.0 lapsed.1 in
    let overdue : list_all (is_overdue m suspected_history) (overdue_requests H m) ≡ true =
    all-after k (λ n. change.Suspected n (moment m)) (is_overdue m) (λ G n o h. h) (silent_nodes c lapsed_history m) (overdue_requests H m) lapsed_history
    (all-after k (λ n. change.Lapsed n (moment m)) (is_overdue m) (λ G n o h. h) (lapsed_nodes c H m) (overdue_requests H m) H (overdue-listed H m)) in
    let once : is_distinct (overdue_requests H m) ≡ true =
    distinct-filter (λ r. nat_le (deadline_of H r) m) (unsettled H) (distinct-filter (λ r. is_unsettled (place H r)) (requests H) (requests-distinct c H l).0) in
    let timed_out : (legal c timed_history ≡ true) × (nat_le (clock timed_history) m ≡ true) =
    time_outs-legal c suspected_history k m (overdue_requests H m) suspected.0 suspected.1 overdue once in
    let draining : list_all (is_draining lapsed_history) (drained_nodes lapsed_history) ≡ true =
    all-left (is_draining lapsed_history) (λ n. not (has_slot_in_use lapsed_history n)) (drained_nodes lapsed_history)
    (all-passed (λ n. is_draining lapsed_history n && not (has_slot_in_use lapsed_history n)) (nodes lapsed_history)) in
    let still_draining : list_all (is_draining timed_history) (drained_nodes lapsed_history) ≡ true =
    all-after k (λ r. change.TimedOut r (moment m)) is_draining (λ G n o h. h) (overdue_requests H m) (drained_nodes lapsed_history) suspected_history
    (all-after k (λ n. change.Suspected n (moment m)) is_draining (λ G n o h. h) (silent_nodes c lapsed_history m) (drained_nodes lapsed_history) lapsed_history draining) in
    let apart : is_distinct (drained_nodes lapsed_history) ≡ true =
    distinct-filter (λ n. is_draining lapsed_history n && not (has_slot_in_use lapsed_history n)) (nodes lapsed_history) (nodes-distinct c lapsed_history lapsed.0).0 in
    let removed : (legal c (after timed_history k (removals lapsed_history m)) ≡ true) × (nat_le (clock (after timed_history k (removals lapsed_history m))) m ≡ true) =
    removals-legal c timed_history k m (drained_nodes lapsed_history) timed_out.0 timed_out.1 still_draining apart in
    rw (
      after-append H k (lapses c H m ++ suspicions c lapsed_history m ++ time_outs H m) (removals lapsed_history m),
      after-append H k (lapses c H m ++ suspicions c lapsed_history m) (time_outs H m),
      after-append H k (lapses c H m) (suspicions c lapsed_history m),
    ) removed.0
  where
    lapsed_history : List Entry
    lapsed_history = after H k (lapses c H m)

    suspected_history : List Entry
    suspected_history = after lapsed_history k (suspicions c lapsed_history m)

    timed_history : List Entry
    timed_history = after suspected_history k (time_outs H m)
