-- Which slots and requests a look at each number finds.
use Rattle.std.proofs.Common.{◌≡◌, ◌⊎◌, inl, inr, ℕ, zero, suc, ◌+◌, ◌<◌, ◌≤◌, Bool, true, false, ◌||◌, nat_eq, nat_le, nat_lt, List, [], ◌∷◌, length, refl, sym, ap, ◌∙◌, subst, arith}
use Rattle.std.specs.Prelude.{Option, None, Some, is_some, option_map, unwrap_or}
use Rattle.std.specs.List.{list_any}
use Rattle.std.proofs.lemmas.Bool.Decides.{nat_tests}
use Rattle.grid_types.specs.declared.entry.Entry.{Entry}
use Rattle.grid_types.specs.declared.entry.Change.{Change}
use Rattle.grid_types.specs.declared.entry.Change.TheVariants as change
use Rattle.grid_types.specs.declared.config.HubConfig.{HubConfig}
use Rattle.grid_types.specs.declared.names.SlotId.{SlotId}
use Rattle.grid_types.specs.declared.limits.TheConstants.{MOST_SLOTS}
use Rattle.grid_types.specs.declared.capabilities.Registration.{Registration}
use Rattle.grid_types.specs.Lists.{numbers_from}
use Rattle.grid_types.specs.History.{requests, next_node, next_request}
use Rattle.grid_types.specs.Nodes.{registration_of, stereotypes, stereotypes_of}
use Rattle.grid_types.specs.Slots.{Holder, free, busy, held, closing, holder, is_free, has_slot_in_use}
use Rattle.grid_types.specs.Requests.{place, asked_of}
use Rattle.grid_types.specs.Legal.{legal}
use Rattle.grid_types.specs.Permitted.{permitted}
use Rattle.grid_types.specs.Tables.{entry}
use Rattle.grid_types.specs.HistoryLaws.{Known, laws}
use Rattle.session_queue.specs.declared.request.Request.{Request}
use Rattle.session_queue.specs.declared.request.Stage.{Stage}
use Rattle.session_queue.specs.declared.request.Stage.TheVariants.{Waiting, Held, Settled}
use Rattle.session_queue.specs.Table.{is_gone, place_of, row}
use Rattle.grid_ledger.specs.declared.ledger.GridLedger.{GridLedger}
use Rattle.grid_ledger.specs.LedgerStands.{Stands}
use Rattle.grid_ledger.specs.Open.{IsCloseOn, NoRequest, NoSlot, is_open}
use Rattle.grid_ledger.proofs.BoolLemmas.{and_left, and_right}

-- ---- numbers

-- below the next number there is one number more
below_or : (i j : ℕ) → j < i + 1 → (j < i) ⊎ (j ≡ i)
below_or i j h = elim (nat_lt j i) as (λ v. nat_lt j i ≡ v → (j < i) ⊎ (j ≡ i)) [
  | true ↦ λ e. inl (grind (arith, nat_tests))
  | false ↦ λ e. inr (grind (arith, nat_tests))
] refl

-- a fact of one number more
pub one_more : (P : ℕ → Type 0) (first i : ℕ) → P i → ((n : ℕ) → first ≤ n → n < i → P n) → (n : ℕ) → first ≤ n → n < i + 1 → P n
one_more P first i here before n least below = by_place (below_or i n below)
  where
    by_place : (n < i) ⊎ (n ≡ i) → P n
    by_place (inl h) = before n least h
    by_place (inr e) = subst P (sym e) here

-- ---- slots

free_close : (h : Holder) → is_free h ≡ true → is_open h ≡ false
free_close free e = refl
free_close (held r) e = absurd (cc)
free_close (busy x) e = absurd (cc)
free_close closing e = absurd (cc)

open_used : (h : Holder) → is_open h ≡ true → is_free h ≡ false
open_used free e = absurd (cc)
open_used (held r) e = refl
open_used (busy x) e = absurd (cc)
open_used closing e = refl

same_number : (m n : ℕ) → m ≡ n → nat_eq n m ≡ true
same_number m n e = grind (arith, nat_tests)

-- a node without a slot in use
pub close_unused : Known → (c : HubConfig) (H : List Entry) (n k : ℕ) (b : Bool) → legal c H ≡ true → b ≡ has_slot_in_use H n → b ≡ false → IsCloseOn H n k
close_unused proved c H n k b l is unused = λ slot same below.
    let none : holder H slot ≡ free = (laws proved).unlisted-free c H n slot l (sym is ∙ unused) (same_number slot.node n same) in
    ap is_open none

-- one slot more
pub close_more : (H : List Entry) (n i : ℕ) (b : Bool) → b ≡ is_open (holder H (record { node = n; index = i })) → b ≡ false → IsCloseOn H n i → IsCloseOn H n (i + 1)
close_more H n i b told none before = λ other same below. by_index other same (below_or i other.index below)
  where
    whole : (o : SlotId) → o.node ≡ n → o.index ≡ i → record { node = n; index = i } ≡ o
    whole o e f = rw (sym e, sym f) refl

    by_index : (other : SlotId) → other.node ≡ n → (other.index < i) ⊎ (other.index ≡ i) → is_open (holder H other) ≡ false
    by_index other same (inl h) = before other same h
    by_index other same (inr h) = subst (λ (s : SlotId). is_open (holder H s) ≡ false) (whole other same h) (sym told ∙ none)

-- a node that registered has a number from the first on
pub node-from_first : Known → (c : HubConfig) (H : List Entry) (n : ℕ) → legal c H ≡ true → is_some (registration_of H n) ≡ true → c.first_node ≤ n
node-from_first proved c [] n l h = absurd (cc)
node-from_first proved c (e ∷ H) n l h =
    by_change e.caller e.change ((laws proved).legal-permitted c e H l) h (node-from_first proved c H n ((laws proved).legal-before c e H l))
  where
    by_change : (k : ℕ) (ch : Change) → permitted c H k ch ≡ true → is_some (registration_of (entry k ch ∷ H) n) ≡ true → (is_some (registration_of H n) ≡ true → c.first_node ≤ n) → c.first_node ≤ n
    by_change k (change.Registered m r at) p h before =
        let next : m ≡ next_node c H = (laws proved).permitted-Registered c H k m r at p in
        elim (nat_eq m n) as (λ v. nat_eq m n ≡ v → c.first_node ≤ n) [
          | true ↦ λ e. let same : m ≡ n = grind arith in omega arith
          | false ↦ λ e. before (grind arith)
        ] refl
    by_change k ch p h before = before h

-- a node that registers has few slots
few_at_registering : (c : HubConfig) (H : List Entry) (k m : ℕ) (r : Registration) (at : _) → permitted c H k (change.Registered m r at) ≡ true → length (stereotypes r.groups) ≤ MOST_SLOTS
unfolding permitted
few_at_registering c H k m r at p = at_most _ (and_right _ _ (and_left _ _ (and_left _ _ (and_left _ _ (and_right _ _ p)))))
  where
    at_most : (n : ℕ) → nat_le n MOST_SLOTS ≡ true → n ≤ MOST_SLOTS
    at_most n h = grind (arith, nat_tests)

slots_in : Option Registration → ℕ
slots_in o = length (unwrap_or (option_map (λ r. stereotypes r.groups) o) [])

pub slots-few : Known → (c : HubConfig) (H : List Entry) (n : ℕ) → legal c H ≡ true → length (stereotypes_of H n) ≤ MOST_SLOTS
slots-few proved c [] n l = omega arith
slots-few proved c (e ∷ H) n l =
    by_change e.caller e.change ((laws proved).legal-permitted c e H l) (slots-few proved c H n ((laws proved).legal-before c e H l))
  where
    by_change : (k : ℕ) (ch : Change) → permitted c H k ch ≡ true → length (stereotypes_of H n) ≤ MOST_SLOTS → length (stereotypes_of (entry k ch ∷ H) n) ≤ MOST_SLOTS
    by_change k (change.Registered m r at) p before =
        let few = few_at_registering c H k m r at p in
        elim (nat_eq m n) as (λ v. nat_eq m n ≡ v → length (stereotypes_of (entry k (change.Registered m r at) ∷ H) n) ≤ MOST_SLOTS) [
          | true ↦ λ e. rw e few
          | false ↦ λ e. rw e before
        ] refl
    by_change k ch p before = before

-- each slot of each node was looked at
pub none_open : Known → (c : HubConfig) (H : List Entry) → legal c H ≡ true → ((n : ℕ) → c.first_node ≤ n → n < next_node c H → IsCloseOn H n MOST_SLOTS) → NoSlot H
none_open proved c H l close slot = by_use (is_free (holder H slot)) refl
  where
    by_use : (b : Bool) → is_free (holder H slot) ≡ b → is_open (holder H slot) ≡ false
    by_use true e = free_close (holder H slot) e
    by_use false e =
        let there : slot.index < length (stereotypes_of H slot.node) = (laws proved).used-slot c H slot l e in
        let registered : is_some (registration_of H slot.node) ≡ true = (laws proved).slot-registered H slot.node slot.index there in
        let few = slots-few proved c H slot.node l in
        close slot.node (node-from_first proved c H slot.node l registered) ((laws proved).node-below_next c H slot.node l registered) slot refl (omega (arith, there, few))

-- ---- requests

stage_there : (s : Stage) → is_gone (place_of s) ≡ false
stage_there Waiting = refl
stage_there Held = refl
stage_there (Settled o) = refl

right_of : (a b : Bool) → a ≡ false → (a || b) ≡ true → b ≡ true
right_of false b e h = h
right_of true b e h = absurd (cc)

-- a number among those from the first on
from_first : (f count r : ℕ) → list_any (nat_eq r) (numbers_from f count) ≡ true → (f ≤ r) × (r < f + count)
from_first f zero r h = absurd (cc)
from_first f (suc count) r h = by_first (nat_eq r f) refl h (λ there. from_first (f + 1) count r there)
  where
    by_first : (b : Bool) → nat_eq r f ≡ b → (nat_eq r f || list_any (nat_eq r) (numbers_from (f + 1) count)) ≡ true →
        (list_any (nat_eq r) (numbers_from (f + 1) count) ≡ true → (f + 1 ≤ r) × (r < f + 1 + count)) → (f ≤ r) × (r < f + suc count)
    by_first true e any later = let same : r ≡ f = grind (arith, nat_tests) in (omega (arith, same), omega (arith, same))
    by_first false e any later = let there : list_any (nat_eq r) (numbers_from (f + 1) count) ≡ true = right_of (nat_eq r f) _ e any in
        let found = later there in (omega (arith, found.0), omega (arith, found.1))

-- a request of which there is a row has a number that was given
row_numbered : Known → (c : HubConfig) (H : List Entry) (r : ℕ) → legal c H ≡ true → is_some (asked_of H r) ≡ true → (c.first_request ≤ r) × (r < next_request c H)
row_numbered proved c H r l asked =
    from_first c.first_request (length (requests H)) r
    (subst (λ (rs : List ℕ). list_any (nat_eq r) rs ≡ true) (((laws proved).numbered c).of_requests H l) ((laws proved).asked-listed H r asked))

-- each request was looked at
pub none_left : Known → (ledger : GridLedger) (H : List Entry) → Stands ledger H → ((r : ℕ) → ledger.config.first_request ≤ r → r < next_request ledger.config H → is_gone (place H r) ≡ true) → NoRequest H
none_left proved ledger H s gone r = by_row (row ledger.requests r) refl
  where
    by_row : (o : Option Request) → row ledger.requests r ≡ o → is_gone (place H r) ≡ true
    by_row None e = s.requests_stand.missing r e
    by_row (Some q) e =
        let tells = s.requests_stand.found r q e in
        let numbered = row_numbered proved ledger.config H r s.is_legal (rw tells.asks refl) in
        gone r numbered.0 numbered.1
