-- Going over the nodes by their places, and where what is noted tells that none need be looked at.
use Rattle.std.proofs.Common.{◌≡◌, ℕ, ◌+◌, ◌-◌, ◌<◌, ◌≤◌, Bool, true, false, not, ◌&&◌, List, [], ◌∷◌, length, drop, filter, refl, sym, ap, ◌∙◌}
use Rattle.std.specs.Prelude.{Option, None, Some, nat_le, find, option_map}
use Rattle.std.specs.List.{slice_get}
use Rattle.grid_types.specs.declared.entry.Entry.{Entry}
use Rattle.grid_types.specs.declared.config.HubConfig.{HubConfig}
use Rattle.grid_types.specs.declared.names.Moment.{Moment}
use Rattle.grid_types.specs.History.{nodes}
use Rattle.grid_types.specs.HubAnswers.{lapsed_nodes, silent_nodes, drained_nodes}
use Rattle.grid_types.specs.Lists.{kept, when}
use Rattle.grid_types.specs.Nodes.{is_registered, is_suspect, is_draining, beat_of}
use Rattle.grid_types.specs.Slots.{has_slot_in_use}
use Rattle.node_registry.specs.Table.{NoneDrains, NoneSilent, NoneUnheard, signed}
use Rattle.hub_walks.specs.Sweeping.{has_lapsed, is_silent, is_drained, is_from}
use Rattle.hub_walks.proofs.RowLemmas.{get-none}
use Rattle.hub_walks.proofs.SweepingLemmas.{first-found, first-next, from-passes, from-fails, from-below}

-- what is kept passes
pub kept-is : (p : ℕ → Bool) (o : Option ℕ) (n : ℕ) → Some n ≡ kept p o → (Some n ≡ o) × (p n ≡ true)
kept-is p None n h = absurd (cc)
kept-is p (Some x) n h = by_test (p x) refl h
  where
    by_test : (v : Bool) → p x ≡ v → Some n ≡ when v x → (Some n ≡ Some x) × (p n ≡ true)
    by_test true e g = let same : n ≡ x = cc in (g, ap p same ∙ e)
    by_test false e g = absurd (cc)

kept-not : (p : ℕ → Bool) (x : ℕ) → None ≡ kept p (Some x) → p x ≡ false
kept-not p x h = by_test (p x) h
  where
    by_test : (v : Bool) → None ≡ when v x → v ≡ false
    by_test true g = absurd (cc)
    by_test false g = refl

-- the node at the place passes, it has a lower number, and it doesn't pass
pub found-kept : (from : ℕ) (p : ℕ → Bool) (xs : List ℕ) (i n k : ℕ) (all : Option ℕ) → Some n ≡ kept p (slice_get xs i) → from ≤ k → k ≡ n → find (is_from from p) (drop i xs) ≡ all → Some n ≡ all
found-kept from p xs i n k all at low same before = let is = kept-is p (slice_get xs i) n at in first-found (is_from from p) xs i n all is.0 (from-passes from n k p low same is.1) before

pub below-kept : (from : ℕ) (p : ℕ → Bool) (xs : List ℕ) (i n k : ℕ) (all : Option ℕ) → Some n ≡ kept p (slice_get xs i) → k < from → k ≡ n → find (is_from from p) (drop i xs) ≡ all → find (is_from from p) (drop (i + 1) xs) ≡ all
below-kept from p xs i n k all at high same before = let is = kept-is p (slice_get xs i) n at in first-next (is_from from p) xs i n all is.0 (from-below from n k p high same) before

pub none-kept : (from : ℕ) (p : ℕ → Bool) (xs : List ℕ) (i : ℕ) (all : Option ℕ) → None ≡ kept p (slice_get xs i) → i < length xs → find (is_from from p) (drop i xs) ≡ all → find (is_from from p) (drop (i + 1) xs) ≡ all
none-kept from p xs i all at low before = by_place (slice_get xs i) refl at
  where
    by_place : (o : Option ℕ) → slice_get xs i ≡ o → None ≡ kept p o → find (is_from from p) (drop (i + 1) xs) ≡ all
    by_place None e g = get-none xs i low (sym e)
    by_place (Some x) e g = first-next (is_from from p) xs i x all (sym e) (from-fails from x p (kept-not p x g)) before

-- the sign of the node at the place, and whether it is so old
both-on : (a b : Bool) → a ≡ true → (a && b) ≡ b
both-on true b h = refl
both-on false b h = absurd (cc)

sign-is : (H : List Entry) (p : ℕ → Bool) (o : Option ℕ) (n : ℕ) (beat : Moment) → Some (n, beat) ≡ option_map (signed H) (kept p o) → (o ≡ Some n) × (p n ≡ true) × (beat.0 ≡ beat_of H n)
sign-is H p None n beat h = absurd (cc)
sign-is H p (Some x) n beat h = by_test (p x) refl h
  where
    by_test : (v : Bool) → p x ≡ v → Some (n, beat) ≡ option_map (signed H) (when v x) → (Some x ≡ Some n) × (p n ≡ true) × (beat.0 ≡ beat_of H n)
    by_test true e g =
        let pair : (n, beat) ≡ signed H x = cc in
        let same : n ≡ x = ap (λ (z : ℕ × Moment). z.0) pair in
        let told : beat.0 ≡ beat_of H x = ap (λ (z : ℕ × Moment). z.1.0) pair in
        (ap Some (sym same), ap p same ∙ e, told ∙ ap (beat_of H) (sym same))
    by_test false e g = absurd (cc)

kept-by : (q : ℕ → Bool) (o : Option ℕ) (n : ℕ) (v : Bool) → o ≡ Some n → q n ≡ v → kept q o ≡ when v n
kept-by q o n v e h = rw (e, h) refl

aged : (H : List Entry) (p : ℕ → Bool) (ms m : ℕ) (o : Option ℕ) (n : ℕ) (beat : Moment) (v : Bool) → Some (n, beat) ≡ option_map (signed H) (kept p o) → nat_le ms (m - beat.0) ≡ v → kept (λ x. p x && nat_le ms (m - beat_of H x)) o ≡ when v n
aged H p ms m o n beat v at old =
    let is = sign-is H p o n beat at in
    kept-by (λ x. p x && nat_le ms (m - beat_of H x)) o n v is.0 (both-on (p n) (nat_le ms (m - beat_of H n)) is.1 ∙ ap (λ (z : ℕ). nat_le ms (m - z)) (sym is.2) ∙ old)

pub aged-passes : (H : List Entry) (p : ℕ → Bool) (ms m : ℕ) (o : Option ℕ) (n : ℕ) (beat : Moment) → Some (n, beat) ≡ option_map (signed H) (kept p o) → nat_le ms (m - beat.0) ≡ true → Some n ≡ kept (λ x. p x && nat_le ms (m - beat_of H x)) o
aged-passes H p ms m o n beat at old = sym (aged H p ms m o n beat true at old)

pub aged-fails : (H : List Entry) (p : ℕ → Bool) (ms m : ℕ) (o : Option ℕ) (n : ℕ) (beat : Moment) → Some (n, beat) ≡ option_map (signed H) (kept p o) → nat_le ms (m - beat.0) ≡ false → None ≡ kept (λ x. p x && nat_le ms (m - beat_of H x)) o
aged-fails H p ms m o n beat at old = sym (aged H p ms m o n beat false at old)

and-off : (a b : Bool) → (a ≡ true → b ≡ false) → (a && b) ≡ false
and-off true b h = h refl
and-off false b h = refl

pub aged-none : (H : List Entry) (p : ℕ → Bool) (ms m : ℕ) (o : Option ℕ) → None ≡ option_map (signed H) (kept p o) → None ≡ kept (λ x. p x && nat_le ms (m - beat_of H x)) o
aged-none H p ms m None h = refl
aged-none H p ms m (Some x) h = by_test (p x) h
  where
    by_test : (v : Bool) → None ≡ option_map (signed H) (when v x) → None ≡ when (v && nat_le ms (m - beat_of H x)) x
    by_test true g = absurd (cc)
    by_test false g = refl

-- the node at the place drains, and has slots in use or none
drained-by : (H : List Entry) (o : Option ℕ) (n : ℕ) (used : Bool) → Some n ≡ kept (is_draining H) o → used ≡ has_slot_in_use H n → kept (is_drained H) o ≡ when (not used) n
drained-by H o n used at told =
    let is = kept-is (is_draining H) o n at in
    kept-by (is_drained H) o n (not used) (sym is.0) (both-on (is_draining H n) (not (has_slot_in_use H n)) is.1 ∙ ap not (sym told))

pub drained-passes : (H : List Entry) (o : Option ℕ) (n : ℕ) (used : Bool) → Some n ≡ kept (is_draining H) o → used ≡ has_slot_in_use H n → used ≡ false → Some n ≡ kept (is_drained H) o
drained-passes H o n used at told free = ap (λ (b : Bool). when (not b) n) (sym free) ∙ sym (drained-by H o n used at told)

pub drained-fails : (H : List Entry) (o : Option ℕ) (n : ℕ) (used : Bool) → Some n ≡ kept (is_draining H) o → used ≡ has_slot_in_use H n → used ≡ true → None ≡ kept (is_drained H) o
drained-fails H o n used at told busy = ap (λ (b : Bool). when (not b) n) (sym busy) ∙ sym (drained-by H o n used at told)

pub drained-none : (H : List Entry) (o : Option ℕ) → None ≡ kept (is_draining H) o → None ≡ kept (is_drained H) o
drained-none H None h = refl
drained-none H (Some x) h = by_test (is_draining H x) h
  where
    by_test : (v : Bool) → None ≡ when v x → None ≡ when (v && not (has_slot_in_use H x)) x
    by_test true g = absurd (cc)
    by_test false g = refl

-- where no node passes there is no first one
filter-none : (p : ℕ → Bool) (xs : List ℕ) → ((n : ℕ) → p n ≡ false) → filter p xs ≡ []
filter-none p [] off = refl
filter-none p (x ∷ xs) off = rw (off x) (filter-none p xs off)

find-none : (from : ℕ) (p : ℕ → Bool) (xs : List ℕ) → ((n : ℕ) → p n ≡ false) → None ≡ find (nat_le from) (filter p xs)
find-none from p xs off = ap (find (nat_le from)) (sym (filter-none p xs off))

pub quiet-none : (c : HubConfig) (H : List Entry) (m from : ℕ) → NoneSilent H m c.down_ms → None ≡ find (nat_le from) (lapsed_nodes c H m)
quiet-none c H m from quiet = find-none from (has_lapsed c H m) (nodes H) (λ n. and-off (is_registered H n) (nat_le c.down_ms (m - beat_of H n)) (quiet n))

trusted : (a b : Bool) → (a && not b) ≡ true → (a ≡ true) × (b ≡ false)
trusted true false h = (refl, refl)
trusted true true h = absurd (cc)
trusted false b h = absurd (cc)

pub heard-none : (c : HubConfig) (H : List Entry) (m from : ℕ) → NoneUnheard H m c.lapse_ms → None ≡ find (nat_le from) (silent_nodes c H m)
heard-none c H m from heard = find-none from (is_silent c H m) (nodes H)
    (λ n. and-off (is_registered H n && not (is_suspect H n)) (nat_le c.lapse_ms (m - beat_of H n)) (λ on. let is = trusted (is_registered H n) (is_suspect H n) on in heard n is.0 is.1))

pub undrained-none : (H : List Entry) (from : ℕ) → NoneDrains H → None ≡ find (nat_le from) (drained_nodes H)
undrained-none H from none = find-none from (is_drained H) (nodes H) (λ n. rw (none n) refl)
