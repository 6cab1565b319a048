-- What one more entry does to the number of a node's held slots.
use Rattle.std.proofs.Common.{◌≡◌, ℕ, ◌+◌, ◌<◌, Bool, true, false, cond, ◌&&◌, List, ◌∷◌, length, refl, sym, arith}
use Rattle.std.specs.Prelude.{Option, None, Some, nat_eq, is_some, unwrap_or}
use Rattle.grid_types.specs.declared.entry.Entry.{Entry}
use Rattle.grid_types.specs.declared.entry.Change.TheVariants as change
use Rattle.grid_types.specs.declared.entry.EndCause.{EndCause}
use Rattle.grid_types.specs.declared.entry.FailWhy.{FailWhy}
use Rattle.grid_types.specs.declared.names.SlotId.{SlotId}
use Rattle.grid_types.specs.declared.names.Moment.{Moment}
use Rattle.grid_types.specs.declared.capabilities.Cap.{Cap}
use Rattle.grid_types.specs.declared.capabilities.Registration.{Registration}
use Rattle.grid_types.specs.declared.config.HubConfig.{HubConfig}
use Rattle.grid_types.specs.Lists.{when, numbers_from}
use Rattle.grid_types.specs.Nodes.{stereotypes_of}
use Rattle.grid_types.specs.Bindings.{bound_slot}
use Rattle.grid_types.specs.Slots.{Holder, free, held, busy, closing, slot_eq, holder, is_free, is_busy, is_held_slot, names_slot, slot_at, held_count}
use Rattle.grid_types.specs.Legal.{legal}
use Rattle.grid_types.specs.Permitted.{permitted}
use Rattle.grid_types.proofs.PermittedLemmas.{permitted-Ended, permitted-Bound, permitted-Reserved, permitted-Failed, permitted-Freed, slot_eq-is, slot_eq-same}
use Rattle.grid_types.proofs.SessionLemmas.{entry}
use Rattle.grid_types.proofs.LegalLemmas.{legal-permitted}
use Rattle.grid_types.proofs.NodeLemmas.{used-slot, ended-busy}
use Rattle.grid_types.proofs.ListedLemmas.{new-node}
use Rattle.grid_types.proofs.FreeSlotLemmas.{unregistered-free}
use Rattle.grid_types.proofs.AppendLemmas.{count-one_more, count-on, count-none}

-- a slot that was not held is held now, and the others are as before
pub held-more : (H G : List Entry) (t : SlotId) → stereotypes_of G t.node ≡ stereotypes_of H t.node → t.index < length (stereotypes_of H t.node) →
    is_held_slot (holder H t) ≡ false → is_held_slot (holder G t) ≡ true → ((s : SlotId) → slot_eq t s ≡ false → holder G s ≡ holder H s) →
    held_count G t.node ≡ held_count H t.node + 1
held-more H G t slots within was now others =
    rw slots (count-one_more t.node t.index (λ s. is_held_slot (holder H s)) (λ s. is_held_slot (holder G s)) 0 (length (stereotypes_of H t.node)) (omega arith) (omega arith) was now
    (λ j other. let apart : slot_eq t (slot_at t.node j) ≡ false = grind arith in rw (others (slot_at t.node j) apart) refl))

-- a slot that was held is not held now, and the others are as before
pub held-less : (H G : List Entry) (t : SlotId) → stereotypes_of G t.node ≡ stereotypes_of H t.node → t.index < length (stereotypes_of H t.node) →
    is_held_slot (holder H t) ≡ true → is_held_slot (holder G t) ≡ false → ((s : SlotId) → slot_eq t s ≡ false → holder G s ≡ holder H s) →
    held_count H t.node ≡ held_count G t.node + 1
held-less H G t slots within was now others =
    rw slots (count-one_more t.node t.index (λ s. is_held_slot (holder G s)) (λ s. is_held_slot (holder H s)) 0 (length (stereotypes_of H t.node)) (omega arith) (omega arith) now was
    (λ j other. let apart : slot_eq t (slot_at t.node j) ≡ false = grind arith in rw (others (slot_at t.node j) apart) refl))

-- the same slots of the node are held
pub held-same : (H G : List Entry) (n : ℕ) → stereotypes_of G n ≡ stereotypes_of H n → ((s : SlotId) → s.node ≡ n → is_held_slot (holder G s) ≡ is_held_slot (holder H s)) →
    held_count G n ≡ held_count H n
held-same H G n slots same = rw slots (count-on n (λ s. is_held_slot (holder G s)) (λ s. is_held_slot (holder H s)) (numbers_from 0 (length (stereotypes_of H n))) (λ i. same (slot_at n i) refl))

busy_not_held : (h : Holder) → is_busy h ≡ true → is_held_slot h ≡ false
busy_not_held (busy x) e = refl
busy_not_held free e = cc
busy_not_held (held r) e = cc
busy_not_held closing e = cc

pub held-Reserved : (c : HubConfig) (H : List Entry) (k q : ℕ) (t : SlotId) (choice : ℕ) (at : Moment) → legal c (entry k (change.Reserved q t choice at) ∷ H) ≡ true →
    held_count (entry k (change.Reserved q t choice at) ∷ H) t.node ≡ held_count H t.node + 1
held-Reserved c H k q t choice at l =
    let p : permitted c H k (change.Reserved q t choice at) ≡ true = legal-permitted c (entry k (change.Reserved q t choice at)) H l in
    let own : slot_eq t t ≡ true = slot_eq-same t in
    let now : is_free (holder (entry k (change.Reserved q t choice at) ∷ H) t) ≡ false = rw own refl in
    held-more H (entry k (change.Reserved q t choice at) ∷ H) t refl (used-slot c (entry k (change.Reserved q t choice at) ∷ H) t l now)
    (rw (permitted-Reserved c H k q t choice at p).is_free refl) (rw own refl) (λ s other. rw other refl)

pub held-Bound : (c : HubConfig) (H : List Entry) (k q : ℕ) (t : SlotId) (x : List ℕ) (cs : List Cap) (at : Moment) → legal c H ≡ true → permitted c H k (change.Bound q t x cs at) ≡ true →
    held_count H t.node ≡ held_count (entry k (change.Bound q t x cs at) ∷ H) t.node + 1
held-Bound c H k q t x cs at l p =
    let own : slot_eq t t ≡ true = slot_eq-same t in
    let holds : holder H t ≡ held q = (permitted-Bound c H k q t x cs at p).holder in
    held-less H (entry k (change.Bound q t x cs at) ∷ H) t refl (used-slot c H t l (rw holds refl)) (rw holds refl) (rw own refl) (λ s other. rw other refl)

not_held_after : (o : Option (List ℕ)) → is_held_slot (unwrap_or (when true (cond (is_some o) closing free)) free) ≡ false
not_held_after None = refl
not_held_after (Some x) = refl

pub held-Failed : (c : HubConfig) (H : List Entry) (k q : ℕ) (t : SlotId) (w : FailWhy) (o : Option (List ℕ)) (last : Bool) (at : Moment) → legal c H ≡ true → permitted c H k (change.Failed q t w o last at) ≡ true →
    held_count H t.node ≡ held_count (entry k (change.Failed q t w o last at) ∷ H) t.node + 1
held-Failed c H k q t w o last at l p =
    let own : slot_eq t t ≡ true = slot_eq-same t in
    let holds : holder H t ≡ held q = (permitted-Failed c H k q t w o last at p).holder in
    held-less H (entry k (change.Failed q t w o last at) ∷ H) t refl (used-slot c H t l (rw holds refl)) (rw holds refl) (rw own (not_held_after o)) (λ s other. rw other refl)

-- an end leaves a busy slot closing, and a Freed and a lapse leave no slot held that was not
pub held-Ended : (c : HubConfig) (H : List Entry) (k b n : ℕ) (e : EndCause) (at : Moment) → legal c H ≡ true → permitted c H k (change.Ended b e at) ≡ true →
    held_count (entry k (change.Ended b e at) ∷ H) n ≡ held_count H n
held-Ended c H k b n e at l p = held-same H (entry k (change.Ended b e at) ∷ H) n refl (λ s _. by_name s (names_slot s (bound_slot H b)) refl)
  where
    by_name : (s : SlotId) (v : Bool) → names_slot s (bound_slot H b) ≡ v → is_held_slot (holder (entry k (change.Ended b e at) ∷ H) s) ≡ is_held_slot (holder H s)
    by_name s true named = rw named (sym (busy_not_held (holder H s) (ended-busy c H s b l (permitted-Ended c H k b e at p) named)))
    by_name s false named = rw named refl

pub held-Freed : (c : HubConfig) (H : List Entry) (k n : ℕ) (t : SlotId) → permitted c H k (change.Freed t) ≡ true →
    held_count (entry k (change.Freed t) ∷ H) n ≡ held_count H n
held-Freed c H k n t p = held-same H (entry k (change.Freed t) ∷ H) n refl (λ s _. by_slot s (slot_eq t s) refl)
  where
    by_slot : (s : SlotId) (v : Bool) → slot_eq t s ≡ v → is_held_slot (holder (entry k (change.Freed t) ∷ H) s) ≡ is_held_slot (holder H s)
    by_slot s true e = let same : t ≡ s = slot_eq-is t s e in
        let was : holder H s ≡ closing = rw (← same) (permitted-Freed c H k t p) in rw (e, was) refl
    by_slot s false e = rw e refl

lapsed_holder : (on : Bool) (h : Holder) → is_held_slot (unwrap_or (when (on && is_busy h) free) h) ≡ is_held_slot h
lapsed_holder true free = refl
lapsed_holder true (held r) = refl
lapsed_holder true (busy x) = refl
lapsed_holder true closing = refl
lapsed_holder false h = refl

pub held-Lapsed : (H : List Entry) (k m n : ℕ) (at : Moment) → held_count (entry k (change.Lapsed m at) ∷ H) n ≡ held_count H n
held-Lapsed H k m n at = held-same H (entry k (change.Lapsed m at) ∷ H) n refl (λ s _. lapsed_holder (nat_eq m s.node) (holder H s))

-- a node that has just registered has no slot held
pub held-Registered : (c : HubConfig) (H : List Entry) (k n : ℕ) (r : Registration) (at : Moment) → legal c H ≡ true → permitted c H k (change.Registered n r at) ≡ true →
    held_count (entry k (change.Registered n r at) ∷ H) n ≡ 0
held-Registered c H k n r at l p = count-none n (λ s. is_held_slot (holder H s)) (numbers_from 0 (length (stereotypes_of (entry k (change.Registered n r at) ∷ H) n)))
    (λ i. let own : nat_eq n n ≡ true = grind arith in rw (unregistered-free c H n (slot_at n i) l (rw (new-node c H k n r at l p) refl) own) refl)
