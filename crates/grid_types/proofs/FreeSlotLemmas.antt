-- The slots of nodes that are not listed, or have not registered, are free.
use Rattle.std.proofs.Common.{◌≡◌, ℕ, ◌+◌, ◌≤◌, ◌<◌, zero, suc, Bool, true, false, not, List, [], ◌∷◌, length, map, refl, sym, subst, arith, add-zero}
use Rattle.std.specs.Prelude.{nat_eq, is_some}
use Rattle.std.specs.List.{list_any}
use Rattle.grid_types.specs.declared.names.SlotId.{SlotId}
use Rattle.grid_types.specs.declared.config.HubConfig.{HubConfig}
use Rattle.grid_types.specs.declared.entry.Entry.{Entry}
use Rattle.grid_types.specs.declared.entry.Change.{Change}
use Rattle.grid_types.specs.declared.entry.Change.TheVariants as change
use Rattle.grid_types.specs.declared.view.Standing.TheVariants as standing
use Rattle.grid_types.specs.Lists.{numbers_from, when, or_else}
use Rattle.grid_types.specs.Nodes.{is_base_up, is_registered, registration_of, stereotypes_of, base_of, stands_registered}
use Rattle.grid_types.specs.Slots.{free, holder, is_free, slot_at, has_slot_in_use}
use Rattle.grid_types.specs.Permitted.{permitted}
use Rattle.grid_types.specs.Legal.{legal}
use Rattle.grid_types.proofs.SessionLemmas.{entry}
use Rattle.grid_types.proofs.ListLemmas.{or_left, or_right}
use Rattle.grid_types.proofs.LegalLemmas.{legal-before, legal-permitted}
use Rattle.grid_types.proofs.PermittedLemmas.{free-is}
use Rattle.grid_types.proofs.NodeLemmas.{used-slot, slot-registered}
use Rattle.grid_types.proofs.ListedLemmas.{base_up-registered, permitted-Draining}

-- a node that is registered has registered
pub registered-known : (c : HubConfig) (H : List Entry) (n : ℕ) → legal c H ≡ true → is_registered H n ≡ true → is_some (registration_of H n) ≡ true
registered-known c [] n l h = absurd (cc)
registered-known c (e ∷ H) n l h = by_change e.caller e.change (legal-permitted c e H l) h (registered-known c H n (legal-before c e H l))
  where
    up_before : (m : ℕ) → is_base_up H m ≡ true → nat_eq m n ≡ true → is_registered H n ≡ true
    up_before m h e = let same : m ≡ n = grind arith in subst (λ (i : ℕ). is_registered H i ≡ true) same (base_up-registered H m h)

    by_change : (k : ℕ) (ch : Change) → permitted c H k ch ≡ true → is_registered (entry k ch ∷ H) n ≡ true → (is_registered H n ≡ true → is_some (registration_of H n) ≡ true) → is_some (registration_of (entry k ch ∷ H) n) ≡ true
    by_change k (change.Registered m r at) p h before = by_node (nat_eq m n) h
      where
        by_node : (b : Bool) → stands_registered (or_else (when b standing.Up) (base_of H n)) ≡ true → is_some (or_else (when b r) (registration_of H n)) ≡ true
        by_node true h = refl
        by_node false h = before h
    by_change k (change.Draining m at) p h before = by_node (nat_eq m n) refl h
      where
        by_node : (b : Bool) → nat_eq m n ≡ b → stands_registered (or_else (when b standing.Draining) (base_of H n)) ≡ true → is_some (registration_of H n) ≡ true
        by_node true e h = before (up_before m (permitted-Draining c H k m at p) e)
        by_node false e h = before h
    by_change k (change.Removed m at) p h before = by_node (nat_eq m n) h
      where
        by_node : (b : Bool) → stands_registered (or_else (when b standing.Gone) (base_of H n)) ≡ true → is_some (registration_of H n) ≡ true
        by_node true h = absurd (cc)
        by_node false h = before h
    by_change k (change.Lapsed m at) p h before = by_node (nat_eq m n) h
      where
        by_node : (b : Bool) → stands_registered (or_else (when b standing.Down) (base_of H n)) ≡ true → is_some (registration_of H n) ≡ true
        by_node true h = absurd (cc)
        by_node false h = before h
    by_change k ch p h before = before h

any_slot : (p : SlotId → Bool) (n first k i : ℕ) → i < k → list_any p (map (slot_at n) (numbers_from first k)) ≡ false → p (slot_at n (first + i)) ≡ false
any_slot p n first zero i h e = absurd (omega arith)
any_slot p n first (suc k) zero h e = rw add-zero (or_left (p (slot_at n first)) _ e)
any_slot p n first (suc k) (suc i) h e =
    let rest : p (slot_at n ((first + 1) + i)) ≡ false = any_slot p n (first + 1) k i (omega arith) (or_right (p (slot_at n first)) _ e) in
    let same : (first + 1) + i ≡ first + suc i = omega arith in
    subst (λ (j : ℕ). p (slot_at n j) ≡ false) same rest

-- the slots of a node that is not listed are free
pub unlisted-free : (c : HubConfig) (H : List Entry) (n : ℕ) (x : SlotId) → legal c H ≡ true → has_slot_in_use H n ≡ false → nat_eq n x.node ≡ true → holder H x ≡ free
unlisted-free c H n x l none e = by_free (is_free (holder H x)) refl
  where
    by_free : (b : Bool) → is_free (holder H x) ≡ b → holder H x ≡ free
    by_free true h = free-is (holder H x) h
    by_free false h =
        let same : n ≡ x.node = grind arith in
        let within : x.index < length (stereotypes_of H x.node) = used-slot c H x l h in
        let here : x.index < length (stereotypes_of H n) = subst (λ (m : ℕ). x.index < length (stereotypes_of H m)) (sym same) within in
        let unused : not (is_free (holder H (slot_at n (0 + x.index)))) ≡ false = any_slot (λ s. not (is_free (holder H s))) n 0 (length (stereotypes_of H n)) x.index here none in
        let zero_first : 0 + x.index ≡ x.index = omega arith in
        let there : not (is_free (holder H (slot_at x.node x.index))) ≡ false = subst (λ (m : ℕ). not (is_free (holder H (slot_at m x.index))) ≡ false) same (subst (λ (j : ℕ). not (is_free (holder H (slot_at n j))) ≡ false) zero_first unused) in
        absurd (cc)

-- the slots of a node that has not registered are free
pub unregistered-free : (c : HubConfig) (H : List Entry) (n : ℕ) (x : SlotId) → legal c H ≡ true → is_some (registration_of H n) ≡ false → nat_eq n x.node ≡ true → holder H x ≡ free
unregistered-free c H n x l none e = by_free (is_free (holder H x)) refl
  where
    by_free : (b : Bool) → is_free (holder H x) ≡ b → holder H x ≡ free
    by_free true h = free-is (holder H x) h
    by_free false h =
        let there : is_some (registration_of H x.node) ≡ true = slot-registered H x.node x.index (used-slot c H x l h) in
        let same : n ≡ x.node = grind arith in
        let gone : is_some (registration_of H x.node) ≡ false = subst (λ (m : ℕ). is_some (registration_of H m) ≡ false) same none in
        absurd (cc)

-- a slot past the last one of its node is free
pub past-free : (c : HubConfig) (H : List Entry) (n i : ℕ) → legal c H ≡ true → length (stereotypes_of H n) ≤ i → not (is_free (holder H (slot_at n (0 + i)))) ≡ false
past-free c H n i l h = by_free (is_free (holder H (slot_at n (0 + i)))) refl
  where
    by_free : (b : Bool) → is_free (holder H (slot_at n (0 + i))) ≡ b → not b ≡ false
    by_free true e = refl
    by_free false e = let within : 0 + i < length (stereotypes_of H n) = used-slot c H (slot_at n (0 + i)) l e in absurd (omega arith)
