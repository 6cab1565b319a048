-- What one more entry does to each fact, gathered word by word.
use Rattle.std.proofs.Common.{◌≡◌, ℕ, zero, suc, ◌+◌, Bool, true, false, cond, List, [], ◌∷◌, ◌++◌, length, refl, sym, ap, ◌∙◌, subst, arith, length-append}
use Rattle.std.specs.Prelude.{Option, None, Some, nat_eq, is_some}
use Rattle.grid_types.specs.declared.entry.Entry.{Entry}
use Rattle.grid_types.specs.declared.entry.Change.{Change}
use Rattle.grid_types.specs.declared.entry.Change.TheVariants as change
use Rattle.grid_types.specs.declared.entry.FailWhy.{FailWhy}
use Rattle.grid_types.specs.declared.entry.Outcome.{Outcome}
use Rattle.grid_types.specs.declared.names.SlotId.{SlotId}
use Rattle.grid_types.specs.declared.names.Moment.{Moment}
use Rattle.grid_types.specs.declared.config.HubConfig.{HubConfig}
use Rattle.grid_types.specs.Lists.{kept, numbers_from}
use Rattle.grid_types.specs.History.{nodes, requests}
use Rattle.grid_types.specs.Nodes.{bound_count, binds_on}
use Rattle.grid_types.specs.Bindings.{Running}
use Rattle.grid_types.specs.Slots.{Holder, free, held, busy, closing, holder}
use Rattle.grid_types.specs.Requests.{place, place_by, is_settled, is_unsettled, is_reserved, is_taken, outcome_of, asked_of, unsettled, waiting, taken as taken_place}
use Rattle.grid_types.specs.Sessions.{IsRunning, live, live_told, is_live, last_bound}
use Rattle.grid_types.specs.LookupMap.{session_in}
use Rattle.grid_types.specs.Permitted.{permitted}
use Rattle.grid_types.specs.Legal.{legal}
use Rattle.grid_types.specs.OneMoreEntry.{with_entry, BaseMoves, SuspicionMoves, CountMoves, HeldMoves, BeatMoves, TurnMoves, HolderMoves, OwnerMoves, LoadMoves, PlaceMoves, BarMoves, LiveMoves, ActiveMoves, PublishedMoves, QueueMoves, NumberedOneByOne}
use Rattle.grid_types.proofs.SessionLemmas.{entry}
use Rattle.grid_types.proofs.PermittedLemmas.{permitted-Registered, permitted-Queued, permitted-Failed, permitted-Taken}
use Rattle.grid_types.proofs.LegalLemmas.{legal-before, legal-permitted}
use Rattle.grid_types.proofs.HeldLemmas.{place-held}
use Rattle.grid_types.proofs.RunningLemmas.{running-busy, busy-running}
use Rattle.grid_types.proofs.AppendLemmas.{base-Registered, base-Draining, base-Removed, base-Lapsed, turned-Reserved, holder-Reserved, holder-Bound, holder-Failed, holder-Freed, holder-Ended, holder-Lapsed, place-Queued, place-Reserved, place-Bound, place-Failed, place-TimedOut, place-Cleared, place-Taken, load-Registered, load-Reserved, load-Bound, load-Failed, load-Failed_orphan, load-Ended, load-Freed, load-Lapsed, load-same}
use Rattle.grid_types.proofs.HeldCountLemmas.{held-Registered, held-Reserved, held-Bound, held-Failed, held-Ended, held-Freed, held-Lapsed, held-same}
use Rattle.grid_types.proofs.MapLemmas.{live-Bound, live-Ended, live-Lapsed}
use Rattle.grid_types.proofs.QueueLemmas.{unsettled-Queued, unsettled-Bound, unsettled-TimedOut, unsettled-Cleared, unsettled-Failed_last, unsettled-Reserved, unsettled-same}

pub base-moves : BaseMoves
base-moves = record {
  registered = base-Registered;
  draining = base-Draining;
  removed = base-Removed;
  lapsed = base-Lapsed;
  others = λ H k n c e. rw e refl;
}

pub suspicion-moves : SuspicionMoves
suspicion-moves = record {
  suspected = λ H k m n at. grind arith;
  beaten = λ H k m n at. grind arith;
  others = λ H k n c e. rw e refl;
}

one_counted : (b : Bool) (n : ℕ) → cond b 1 0 + n ≡ cond b (n + 1) n
one_counted true n = omega arith
one_counted false n = omega arith

none_counted : (b : Bool) (n : ℕ) → b ≡ false → cond b 1 0 + n ≡ n
none_counted true n e = cc
none_counted false n e = omega arith

pub count-moves : CountMoves
count-moves = record {
  bound = λ H k r n t x caps at. one_counted (nat_eq t.node n) (bound_count H n);
  others = λ H k n c e. none_counted (binds_on n c) (bound_count H n) e;
}

pub beat-moves : BeatMoves
beat-moves = record {
  registered = λ H k m n r at. grind arith;
  beaten = λ H k m n at. grind arith;
  others = λ H k n c e. rw e refl;
}

pub turn-moves : TurnMoves
turn-moves = record { reserved = turned-Reserved; others = λ H k n c e. rw e refl }

pub holder-moves : HolderMoves
holder-moves = record {
  reserved = holder-Reserved;
  bound = holder-Bound;
  failed = holder-Failed;
  ended = holder-Ended;
  freed = holder-Freed;
  lapsed = holder-Lapsed;
  others = λ H k s c e. rw e refl;
}

pub owner-moves : OwnerMoves
owner-moves = record {
  reserved = λ H k r t s choice at. grind arith;
  bound = λ H k r t s x caps at. grind arith;
  failed = λ H k r t s w o last at. grind arith;
  ended = λ H k b s e at. grind arith;
  freed = λ H k t s. grind arith;
  lapsed = λ H k n s at. grind arith;
  others = λ H k s c e. rw e refl;
}

pub load-moves : (c : HubConfig) → LoadMoves c
load-moves c = record {
  registered = load-Registered c;
  reserved = load-Reserved c;
  bound = load-Bound c;
  failed = load-Failed c;
  failed_orphan = load-Failed_orphan c;
  ended = load-Ended c;
  freed = load-Freed c;
  lapsed = load-Lapsed;
  others = λ H k n d same off. load-same H (entry k d ∷ H) n (rw same refl) (λ s on. rw (off s on) refl);
}

pub held-moves : (c : HubConfig) → HeldMoves c
held-moves c = record {
  registered = held-Registered c;
  reserved = held-Reserved c;
  bound = held-Bound c;
  failed = held-Failed c;
  ended = held-Ended c;
  freed = held-Freed c;
  lapsed = held-Lapsed;
  others = λ H k n d same off. held-same H (entry k d ∷ H) n (rw same refl) (λ s on. rw (off s on) refl);
}

pub place-moves : (c : HubConfig) → PlaceMoves c
place-moves c = record {
  queued = place-Queued c;
  reserved = place-Reserved c;
  bound = place-Bound c;
  failed = place-Failed c;
  timed_out = place-TimedOut c;
  cleared = place-Cleared c;
  taken = place-Taken;
  others = λ H k r d asked outcome reserved taken. rw (asked, outcome, reserved, taken) refl;
}

pub bar-moves : BarMoves
bar-moves = record { failed = λ H k q r n t w o last at. refl; others = λ H k r n c e. rw e refl }

kept_same : (p q : ℕ → Bool) (o : Option Running) → ((b : ℕ) → p b ≡ q b) → kept (λ r. p r.binding) o ≡ kept (λ r. q r.binding) o
kept_same p q None same = refl
kept_same p q (Some x) same = rw (same x.binding) refl

live-others : (H : List Entry) (k : ℕ) (d : Change) (s : List ℕ) → ((b : ℕ) → live_told b H d ≡ None) → live (with_entry H k d) s ≡ live H s
live-others H k (change.Bound r t y cs at) s off = let own : nat_eq r r ≡ true = grind arith in absurd (grind (arith, off r))
live-others H k (change.Ended q e at) s off = kept_same (is_live (entry k (change.Ended q e at) ∷ H)) (is_live H) (last_bound H s) (λ b. rw (off b) refl)
live-others H k (change.Lapsed n at) s off = kept_same (is_live (entry k (change.Lapsed n at) ∷ H)) (is_live H) (last_bound H s) (λ b. rw (off b) refl)
live-others H k d s off = refl

pub live-moves : (c : HubConfig) → LiveMoves c
live-moves c = record {
  bound = live-Bound c;
  ended = live-Ended;
  lapsed = live-Lapsed c;
  others = live-others;
}

pub active-moves : ActiveMoves
active-moves = record {
  bound = λ H k r b t x caps at. grind arith;
  touched = λ H k q b at. grind arith;
  others = λ H k b c e. rw e refl;
}

session-busy : (h : Holder) (x : List ℕ) → session_in h ≡ Some x → h ≡ busy x
session-busy (busy y) x e = grind arith
session-busy free x e = cc
session-busy (held r) x e = cc
session-busy closing x e = cc

runs-in : (c : HubConfig) (H : List Entry) (s : SlotId) (x : List ℕ) → legal c H ≡ true → session_in (holder H s) ≡ Some x → (y : Running) × IsRunning H y × (y.slot ≡ s) × (y.session ≡ x)
runs-in c H s x l e = let r = running-busy c H s x l (session-busy (holder H s) x e) in (r.which, r.runs, r.slot, r.session)

in-slot : (c : HubConfig) (H : List Entry) (s : SlotId) (x : List ℕ) (y : Running) → legal c H ≡ true → IsRunning H y → y.slot ≡ s → y.session ≡ x → session_in (holder H s) ≡ Some x
in-slot c H s x y l r slot session = rw (← slot, busy-running c H y l r) (ap (λ (z : List ℕ). Some z) session)

pub published-moves : (c : HubConfig) → PublishedMoves c
published-moves c = record {
  bound = λ H k r t x caps at. refl;
  ended = λ H k x e at r. rw r.bound refl;
  lapsed = λ H k n at. refl;
  others = λ H k d e. rw e refl;
  running = λ H s x l. (runs-in c H s x l, λ p. in-slot c H s x p.0 l p.1 p.2 p.3);
}

-- a failed start that is not the last, and a request that is taken, leave the same requests unsettled
unsettled-failed : (c : HubConfig) (H : List Entry) (k q : ℕ) (t : SlotId) (w : FailWhy) (o : Option (List ℕ)) (at : Moment) → legal c H ≡ true → permitted c H k (change.Failed q t w o false at) ≡ true →
    unsettled (with_entry H k (change.Failed q t w o false at)) ≡ unsettled H
unsettled-failed c H k q t w o at l p = unsettled-same H (entry k (change.Failed q t w o false at) ∷ H) refl
    (λ r. rw (place-Failed c H k q r t w o false at l p) (by_request r (nat_eq q r) refl))
  where
    by_settled : (v : Bool) → is_settled H q ≡ v → is_unsettled (cond v (place H q) waiting) ≡ is_unsettled (place H q)
    by_settled true e = refl
    by_settled false e = rw (place-held c H t q l (permitted-Failed c H k q t w o false at p).holder e) refl

    by_request : (r : ℕ) (v : Bool) → nat_eq q r ≡ v → is_unsettled (cond v (cond (is_settled H q) (place H q) waiting) (place H r)) ≡ is_unsettled (place H r)
    by_request r true e = let same : q ≡ r = grind arith in
        subst (λ (z : ℕ). is_unsettled (cond (is_settled H q) (place H q) waiting) ≡ is_unsettled (place H z)) same (by_settled (is_settled H q) refl)
    by_request r false e = refl

settled_place : (t : Bool) (o : Option Outcome) (v a : Bool) → is_some o ≡ true → is_unsettled (place_by t o v a) ≡ false
settled_place true o v a e = refl
settled_place false (Some o) v a e = refl
settled_place false None v a e = cc

unsettled-taken : (c : HubConfig) (H : List Entry) (k q : ℕ) (at : Moment) → legal c H ≡ true → permitted c H k (change.Taken q at) ≡ true → unsettled (with_entry H k (change.Taken q at)) ≡ unsettled H
unsettled-taken c H k q at l p = unsettled-same H (entry k (change.Taken q at) ∷ H) refl
    (λ r. rw (place-Taken H k q r at) (by_request r (nat_eq q r) refl))
  where
    over : is_unsettled (place H q) ≡ false
    over = settled_place (is_taken H q) (outcome_of H q) (is_reserved H q) (is_some (asked_of H q)) (permitted-Taken c H k q at p).0

    by_request : (r : ℕ) (v : Bool) → nat_eq q r ≡ v → is_unsettled (cond v taken_place (place H r)) ≡ is_unsettled (place H r)
    by_request r true e = let same : q ≡ r = grind arith in
        subst (λ (z : ℕ). false ≡ is_unsettled (place H z)) same (sym over)
    by_request r false e = refl

pub queue-moves : (c : HubConfig) → QueueMoves c
queue-moves c = record {
  queued = unsettled-Queued c;
  reserved = unsettled-Reserved c;
  bound = unsettled-Bound c;
  failed_last = unsettled-Failed_last c;
  failed = unsettled-failed c;
  timed_out = unsettled-TimedOut c;
  cleared = unsettled-Cleared c;
  taken = unsettled-taken c;
}

-- one number more
numbers-more : (a m : ℕ) → numbers_from a m ++ (a + m) ∷ [] ≡ numbers_from a (m + 1)
numbers-more a zero = grind arith
numbers-more a (suc m) =
    let shift : (a + 1) + m ≡ a + suc m = omega arith in
    let longer : suc m + 1 ≡ suc (m + 1) = omega arith in
    rw (longer, ← shift) (ap (λ (xs : List ℕ). a ∷ xs) (numbers-more (a + 1) m))

numbered-more : (a x : ℕ) (xs : List ℕ) → xs ≡ numbers_from a (length xs) → x ≡ a + length xs → xs ++ x ∷ [] ≡ numbers_from a (length (xs ++ x ∷ []))
numbered-more a x xs before next =
    let longer : length (xs ++ x ∷ []) ≡ length xs + 1 = length-append xs (x ∷ []) in
    rw (longer, next) (ap (λ (ys : List ℕ). ys ++ (a + length xs) ∷ []) before ∙ numbers-more a (length xs))

nodes-numbered : (c : HubConfig) (H : List Entry) → legal c H ≡ true → nodes H ≡ numbers_from c.first_node (length (nodes H))
nodes-numbered c [] l = refl
nodes-numbered c (e ∷ H) l = by_change e.caller e.change (legal-permitted c e H l) (nodes-numbered c H (legal-before c e H l))
  where
    by_change : (k : ℕ) (ch : Change) → permitted c H k ch ≡ true → nodes H ≡ numbers_from c.first_node (length (nodes H)) → nodes (entry k ch ∷ H) ≡ numbers_from c.first_node (length (nodes (entry k ch ∷ H)))
    by_change k (change.Registered m r at) p before = numbered-more c.first_node m (nodes H) before (permitted-Registered c H k m r at p)
    by_change k ch p before = before

requests-numbered : (c : HubConfig) (H : List Entry) → legal c H ≡ true → requests H ≡ numbers_from c.first_request (length (requests H))
requests-numbered c [] l = refl
requests-numbered c (e ∷ H) l = by_change e.caller e.change (legal-permitted c e H l) (requests-numbered c H (legal-before c e H l))
  where
    by_change : (k : ℕ) (ch : Change) → permitted c H k ch ≡ true → requests H ≡ numbers_from c.first_request (length (requests H)) → requests (entry k ch ∷ H) ≡ numbers_from c.first_request (length (requests (entry k ch ∷ H)))
    by_change k (change.Queued m choices d at) p before = numbered-more c.first_request m (requests H) before (permitted-Queued c H k m choices d at p)
    by_change k ch p before = before

pub numbered : (c : HubConfig) → NumberedOneByOne c
numbered c = record { of_nodes = nodes-numbered c; of_requests = requests-numbered c }
