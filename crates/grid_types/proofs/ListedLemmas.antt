-- Nodes that are listed: what they were before the last entry, and that they registered.
use Rattle.std.proofs.Common.{◌≡◌, ℕ, suc, ◌+◌, ◌≤◌, ◌⊎◌, Bool, true, false, cond, not, ◌||◌, List, [], ◌∷◌, map, length, refl, sym, ap, subst, ◌∙◌, inl, inr, arith}
use Rattle.std.specs.Prelude.{Option, None, Some, nat_eq, is_some}
use Rattle.std.specs.List.{list_any}
use Rattle.grid_types.specs.declared.entry.Entry.{Entry}
use Rattle.grid_types.specs.declared.entry.Change.{Change}
use Rattle.grid_types.specs.declared.entry.Change.TheVariants as change
use Rattle.grid_types.specs.declared.names.SlotId.{SlotId}
use Rattle.grid_types.specs.declared.names.Moment.{Moment}
use Rattle.grid_types.specs.declared.view.Standing.{Standing}
use Rattle.grid_types.specs.declared.view.Standing.TheVariants as standing
use Rattle.grid_types.specs.declared.config.HubConfig.{HubConfig}
use Rattle.grid_types.specs.declared.capabilities.Registration.{Registration}
use Rattle.grid_types.specs.Lists.{numbers_from}
use Rattle.grid_types.specs.Nodes.{registration_of, base_of, stereotypes_of, is_registered, is_up, is_base_up, is_suspect, stands_up, stands_registered, turned}
use Rattle.grid_types.specs.Bindings.{bound_slot}
use Rattle.grid_types.specs.Slots.{Holder, free, held, busy, closing, holder, is_free, is_busy, slot_eq, slot_at, names_slot, has_slot_in_use, is_listed}
use Rattle.grid_types.specs.Legal.{legal}
use Rattle.grid_types.specs.Permitted.{permitted}
use Rattle.grid_types.proofs.PermittedLemmas.{permitted-Bound, permitted-Reserved, permitted-Failed, permitted-Ended, permitted-Registered, slot_eq-is}
use Rattle.grid_types.proofs.LegalLemmas.{legal-before, legal-permitted}
use Rattle.grid_types.proofs.NodeLemmas.{node-below_next, ended-busy}
use Rattle.grid_types.proofs.SessionLemmas.{entry}

-- a slot that is used in G is used in H, at each of the node's
any-used : (H G : List Entry) (n : ℕ) (is : List ℕ) → ((i : ℕ) → is_free (holder G (slot_at n i)) ≡ false → is_free (holder H (slot_at n i)) ≡ false) →
    list_any (λ s. not (is_free (holder G s))) (map (slot_at n) is) ≡ true → list_any (λ s. not (is_free (holder H s))) (map (slot_at n) is) ≡ true
any-used H G n [] used h = cc
any-used H G n (i ∷ is) used h = by_free (is_free (holder G (slot_at n i))) refl h (any-used H G n is used)
  where
    by_free : (v : Bool) → is_free (holder G (slot_at n i)) ≡ v → (not v || list_any (λ s. not (is_free (holder G s))) (map (slot_at n) is)) ≡ true →
        (list_any (λ s. not (is_free (holder G s))) (map (slot_at n) is) ≡ true → list_any (λ s. not (is_free (holder H s))) (map (slot_at n) is) ≡ true) →
        (not (is_free (holder H (slot_at n i))) || list_any (λ s. not (is_free (holder H s))) (map (slot_at n) is)) ≡ true
    by_free false e h rest = rw (used i e) refl
    by_free true e h rest = rw (rest h) (or_true (not (is_free (holder H (slot_at n i)))))
      where
        or_true : (v : Bool) → (v || true) ≡ true
        or_true true = refl
        or_true false = refl

either : (a b x y : Bool) → (a || b) ≡ true → (a ≡ true → (x || y) ≡ true) → (b ≡ true → y ≡ true) → (x || y) ≡ true
either true b x y h f g = f refl
either false true true y h f g = refl
either false true false y h f g = g refl
either false false x y h f g = absurd (cc)

-- the same slots, each used only where it was used before; and registered only where it was
still : (H G : List Entry) (n : ℕ) → stereotypes_of G n ≡ stereotypes_of H n → (is_registered G n ≡ true → is_registered H n ≡ true) →
    ((i : ℕ) → is_free (holder G (slot_at n i)) ≡ false → is_free (holder H (slot_at n i)) ≡ false) → is_listed G n ≡ true → is_listed H n ≡ true
still H G n same reg used h = either (is_registered G n) (has_slot_in_use G n) (is_registered H n) (has_slot_in_use H n) h
    (λ r. rw (reg r) refl)
    (λ u. any-used H G n (numbers_from 0 (length (stereotypes_of H n))) used
    (let At : ℕ → Type 0 = λ z. list_any (λ s. not (is_free (holder G s))) (map (slot_at n) (numbers_from 0 z)) ≡ true in subst At (λ j. length (same j)) u))

none-of : {X : Type 0} (o : Option X) → is_some o ≡ false → o ≡ None
none-of None h = refl
none-of (Some x) h = cc

-- the number of a registration is new
pub new-node : (c : HubConfig) (H : List Entry) (k m : ℕ) (r : _) (at : _) → legal c H ≡ true → permitted c H k (change.Registered m r at) ≡ true → registration_of H m ≡ None
new-node c H k m r at l p = none-of (registration_of H m) (elim (is_some (registration_of H m)) as (λ v. is_some (registration_of H m) ≡ v → is_some (registration_of H m) ≡ false) [
  | true ↦ λ e. let below = node-below_next c H m l e in let next = permitted-Registered c H k m r at p in absurd (grind (arith, below, next))
  | false ↦ λ e. e
] refl)

up_registered : (o : Option Standing) → stands_up o ≡ true → stands_registered o ≡ true
up_registered (Some standing.Up) h = refl
up_registered (Some standing.Draining) h = cc
up_registered (Some standing.Down) h = cc
up_registered (Some standing.Gone) h = cc
up_registered (Some standing.Suspect) h = cc
up_registered None h = cc

pub base_up-registered : (H : List Entry) (n : ℕ) → is_base_up H n ≡ true → is_registered H n ≡ true
base_up-registered H n h = up_registered (base_of H n) h

up_base : (suspect : Bool) (o : Option Standing) → stands_up (cond suspect (Some standing.Suspect) o) ≡ true → stands_up o ≡ true
up_base true o h = cc
up_base false o h = h

-- a node that takes new sessions has the base Up
pub up-base_up : (H : List Entry) (n : ℕ) → is_up H n ≡ true → is_base_up H n ≡ true
up-base_up H n h = up_base (is_suspect H n) (base_of H n) h

pub up-registered : (H : List Entry) (n : ℕ) → is_up H n ≡ true → is_registered H n ≡ true
up-registered H n h = base_up-registered H n (up-base_up H n h)

pub permitted-Draining : (c : HubConfig) (H : List Entry) (k m : ℕ) (at : Moment) → permitted c H k (change.Draining m at) ≡ true → is_base_up H m ≡ true
unfolding permitted
permitted-Draining c H k m at h = grind arith

busy_used : (x : Holder) → is_busy x ≡ true → is_free x ≡ false
busy_used (busy x) h = refl
busy_used free h = cc
busy_used (held r) h = cc
busy_used closing h = cc

-- a slot that is not free, and every other one by another way
at-slot : (H : List Entry) (t s : SlotId) → is_free (holder H t) ≡ false → (slot_eq t s ≡ false → is_free (holder H s) ≡ false) → is_free (holder H s) ≡ false
at-slot H t s own other = elim (slot_eq t s) as (λ v. slot_eq t s ≡ v → is_free (holder H s) ≡ false) [
  | true ↦ λ e. let Used : SlotId → Type 0 = λ z. is_free (holder H z) ≡ false in subst Used (slot_eq-is t s e) own
  | false ↦ λ e. other e
] refl

pub listed-before : (c : HubConfig) (H : List Entry) (k n : ℕ) (ch : Change) → legal c (entry k ch ∷ H) ≡ true → is_listed (entry k ch ∷ H) n ≡ true →
    (registration_of H n ≡ None) ⊎ (is_listed H n ≡ true)
listed-before c H k n ch l h = by_change ch (legal-permitted c (entry k ch) H l) (legal-before c (entry k ch) H l) h
  where
    by_change : (ch : Change) → permitted c H k ch ≡ true → legal c H ≡ true → is_listed (entry k ch ∷ H) n ≡ true → (registration_of H n ≡ None) ⊎ (is_listed H n ≡ true)
    by_change (change.Registered m r at) p l h = elim (nat_eq m n) as (λ v. nat_eq m n ≡ v → (registration_of H n ≡ None) ⊎ (is_listed H n ≡ true)) [
      | true ↦ λ e. let same : m ≡ n = grind arith in inl (rw (← same) (new-node c H k m r at l p))
      | false ↦ λ e. inr (still H (entry k (change.Registered m r at) ∷ H) n (rw e refl) (λ q. grind arith) (λ i u. u) h)
    ] refl
    by_change (change.Draining m at) p l h = inr (still H (entry k (change.Draining m at) ∷ H) n refl (λ q. elim (nat_eq m n) as (λ v. nat_eq m n ≡ v → is_registered H n ≡ true) [
      | true ↦ λ e. let same : m ≡ n = grind arith in rw (← same) (base_up-registered H m (permitted-Draining c H k m at p))
      | false ↦ λ e. grind arith
    ] refl) (λ i u. u) h)
    by_change (change.Removed m at) p l h = inr (still H (entry k (change.Removed m at) ∷ H) n refl (λ q. grind arith) (λ i u. u) h)
    by_change (change.Lapsed m at) p l h = inr (still H (entry k (change.Lapsed m at) ∷ H) n refl (λ q. grind arith) (λ i u. grind arith) h)
    by_change (change.Reserved r t choice at) p l h = inr (elim (nat_eq t.node n) as (λ v. nat_eq t.node n ≡ v → is_listed H n ≡ true) [
      | true ↦ λ e. let same : t.node ≡ n = grind arith in let reg : is_registered H t.node ≡ true = up-registered H t.node (permitted-Reserved c H k r t choice at p).is_up in let here : is_registered H n ≡ true = rw (← same) reg in rw here refl
      | false ↦ λ e. still H (entry k (change.Reserved r t choice at) ∷ H) n refl (λ q. q) (λ i u. let apart : slot_eq t (slot_at n i) ≡ false = grind arith in grind arith) h
    ] refl)
    by_change (change.Bound r t x cs at) p l h = inr (still H (entry k (change.Bound r t x cs at) ∷ H) n refl (λ q. q) (λ i u. at-slot H t (slot_at n i) (rw (permitted-Bound c H k r t x cs at p).holder refl) (λ e. grind arith)) h)
    by_change (change.Failed r t w o last at) p l h = inr (still H (entry k (change.Failed r t w o last at) ∷ H) n refl (λ q. q) (λ i u. at-slot H t (slot_at n i) (rw (permitted-Failed c H k r t w o last at p).holder refl) (λ e. grind arith)) h)
    by_change (change.Ended b e at) p l h = inr (still H (entry k (change.Ended b e at) ∷ H) n refl (λ q. q) (λ i u. elim (names_slot (slot_at n i) (bound_slot H b)) as (λ v. names_slot (slot_at n i) (bound_slot H b) ≡ v → is_free (holder H (slot_at n i)) ≡ false) [
      | true ↦ λ d. busy_used (holder H (slot_at n i)) (ended-busy c H (slot_at n i) b l (permitted-Ended c H k b e at p) d)
      | false ↦ λ d. grind arith
    ] refl) h)
    by_change (change.Freed t) p l h = inr (still H (entry k (change.Freed t) ∷ H) n refl (λ q. q) (λ i u. grind arith) h)
    by_change other p l h = inr h

pub permitted-Removed : (c : HubConfig) (H : List Entry) (k m : ℕ) (at : Moment) → permitted c H k (change.Removed m at) ≡ true → is_registered H m ≡ true
unfolding permitted
permitted-Removed c H k m at h = grind arith

pub permitted-Lapsed : (c : HubConfig) (H : List Entry) (k m : ℕ) (at : Moment) → permitted c H k (change.Lapsed m at) ≡ true → is_registered H m ≡ true
unfolding permitted
permitted-Lapsed c H k m at h = grind arith

stands_some : (o : Option Standing) → stands_registered o ≡ true → is_some o ≡ true
stands_some None h = cc
stands_some (Some s) h = refl

-- a node has a base exactly where it registered
pub base-registration : (c : HubConfig) (H : List Entry) (n : ℕ) → legal c H ≡ true → is_some (base_of H n) ≡ is_some (registration_of H n)
base-registration c [] n l = refl
base-registration c (e ∷ H) n l = by_change e.caller e.change (legal-permitted c e H l) (base-registration c H n (legal-before c e H l))
  where
    own : (m : ℕ) (G : List Entry) → is_some (base_of H n) ≡ is_some (registration_of H n) → is_registered H m ≡ true → registration_of G n ≡ registration_of H n →
        (nat_eq m n ≡ true → is_some (base_of G n) ≡ true) → (nat_eq m n ≡ false → base_of G n ≡ base_of H n) → is_some (base_of G n) ≡ is_some (registration_of G n)
    own m G before reg same now else_same = elim (nat_eq m n) as (λ v. nat_eq m n ≡ v → is_some (base_of G n) ≡ is_some (registration_of G n)) [
      | true ↦ λ d. let one : m ≡ n = grind arith in let At : ℕ → Type 0 = λ z. is_registered H z ≡ true in let here : is_registered H n ≡ true = subst At one reg in
          now d ∙ sym (stands_some (base_of H n) here) ∙ before ∙ ap is_some (sym same)
      | false ↦ λ d. ap is_some (else_same d) ∙ before ∙ ap is_some (sym same)
    ] refl

    by_change : (k : ℕ) (ch : Change) → permitted c H k ch ≡ true → is_some (base_of H n) ≡ is_some (registration_of H n) → is_some (base_of (entry k ch ∷ H) n) ≡ is_some (registration_of (entry k ch ∷ H) n)
    by_change k (change.Registered m r at) p before = elim (nat_eq m n) as (λ v. nat_eq m n ≡ v → is_some (base_of (entry k (change.Registered m r at) ∷ H) n) ≡ is_some (registration_of (entry k (change.Registered m r at) ∷ H) n)) [
      | true ↦ λ d. rw d refl
      | false ↦ λ d. rw d before
    ] refl
    by_change k (change.Draining m at) p before = own m (entry k (change.Draining m at) ∷ H) before (base_up-registered H m (permitted-Draining c H k m at p)) refl (λ d. rw d refl) (λ d. rw d refl)
    by_change k (change.Removed m at) p before = own m (entry k (change.Removed m at) ∷ H) before (permitted-Removed c H k m at p) refl (λ d. rw d refl) (λ d. rw d refl)
    by_change k (change.Lapsed m at) p before = own m (entry k (change.Lapsed m at) ∷ H) before (permitted-Lapsed c H k m at p) refl (λ d. rw d refl) (λ d. rw d refl)
    by_change k ch p before = before

-- a listed node registered
pub listed-registered : (c : HubConfig) (H : List Entry) (n : ℕ) → legal c H ≡ true → is_listed H n ≡ true → (r : Registration) × (registration_of H n ≡ Some r)
listed-registered c H n l h = by_registration (registration_of H n) refl (base-registration c H n l)
  where
    by_registration : (o : Option Registration) → registration_of H n ≡ o → is_some (base_of H n) ≡ is_some (registration_of H n) → (r : Registration) × (registration_of H n ≡ Some r)
    by_registration (Some r) e s = (r, e)
    by_registration None e s =
        let none : base_of H n ≡ None = none-of (base_of H n) (s ∙ ap is_some e) in
        let off : is_listed H n ≡ false = rw (e, none) refl in
        absurd (grind arith)

-- a registration that is not there after an entry was not there before it
pub registration-before : (H : List Entry) (k n : ℕ) (ch : Change) → registration_of (entry k ch ∷ H) n ≡ None → registration_of H n ≡ None
registration-before H k n (change.Registered m r at) h = grind arith
registration-before H k n ch h = h

-- a node's last reservation is in the history
pub turned-within : (H : List Entry) (n : ℕ) → turned H n ≤ length H
turned-within [] n = omega arith
turned-within (e ∷ H) n = by_change e.caller e.change (turned-within H n)
  where
    by_change : (k : ℕ) (ch : Change) → turned H n ≤ length H → turned (entry k ch ∷ H) n ≤ suc (length H)
    by_change k (change.Reserved r s choice at) before = elim (nat_eq s.node n) as (λ v. nat_eq s.node n ≡ v → turned (entry k (change.Reserved r s choice at) ∷ H) n ≤ suc (length H)) [
      | true ↦ λ d. let now : turned (entry k (change.Reserved r s choice at) ∷ H) n ≡ length H + 1 = rw d refl in rw now (omega arith)
      | false ↦ λ d. let same : turned (entry k (change.Reserved r s choice at) ∷ H) n ≡ turned H n = rw d refl in rw same (omega (arith, before))
    ] refl
    by_change k ch before = omega (arith, before)
