-- Which slots and requests the loops of a settling have gone through.
use Rattle.std.proofs.Common.{◌≡◌, ◌⊎◌, inl, inr, ℕ, zero, suc, ◌+◌, ◌<◌, ◌≤◌, Bool, true, false, ◌||◌, nat_eq, nat_lt, List, [], ◌∷◌, length, refl, sym, ap, ◌∙◌, subst, arith}
use Rattle.std.specs.Prelude.{Option, None, Some, is_some, option_map}
use Rattle.std.specs.List.{list_any}
use Rattle.std.proofs.lemmas.Bool.Decides.{nat_tests}
use Rattle.grid_types.specs.declared.entry.Entry.{Entry}
use Rattle.grid_types.specs.declared.entry.Change.{Change}
use Rattle.grid_types.specs.declared.entry.Change.TheVariants as change
use Rattle.grid_types.specs.declared.config.HubConfig.{HubConfig}
use Rattle.grid_types.specs.declared.names.SlotId.{SlotId}
use Rattle.grid_types.specs.declared.limits.TheConstants.{MOST_SLOTS}
use Rattle.grid_types.specs.Lists.{numbers_from}
use Rattle.grid_types.specs.History.{clock, requests, next_node, next_request, nodes}
use Rattle.grid_types.specs.Nodes.{registration_of, stereotypes, stereotypes_of}
use Rattle.grid_types.specs.Slots.{Holder, free, busy, held, closing, holder, is_free, is_held_slot, is_closing, has_slot_in_use}
use Rattle.grid_types.specs.Requests.{Asked, Place, place}
use Rattle.grid_types.specs.Legal.{legal}
use Rattle.grid_types.specs.Permitted.{is_caller, permitted}
use Rattle.grid_types.specs.Tables.{entry}
use Rattle.grid_types.specs.HistoryLaws.{Known, laws}
use Rattle.session_queue.specs.declared.request.Request.{Request}
use Rattle.session_queue.specs.Table.{is_gone, row}
use Rattle.grid_ledger.specs.declared.ledger.GridLedger.{GridLedger}
use Rattle.grid_ledger.specs.LedgerStands.{Stands}
use Rattle.grid_ledger.specs.Open.{is_open}
use Rattle.grid_opening.specs.declared.settling.SlotWork.{SlotWork}
use Rattle.grid_opening.specs.declared.settling.SlotWork.TheVariants as work
use Rattle.grid_opening.specs.declared.settling.RequestWork.{RequestWork}
use Rattle.grid_opening.specs.declared.settling.RequestWork.TheVariants as asked_work
use Rattle.grid_opening.specs.Settling.{Clears, ClearsOne, Closes, EachRequest, EachSlot, Ends, IsRequest, IsSettledOrGone, IsSlot, IsUntakenOf, NoHeld, OnNode, Passes, Refreshes, Settles, Stays, TakesGiven, Works, is_untaken, wants}

-- ---- numbers

below_or : (i j : ℕ) → j < i + 1 → (j < i) ⊎ (j ≡ i)
below_or i j h = elim (nat_lt j i) as (λ v. nat_lt j i ≡ v → (j < i) ⊎ (j ≡ i)) [
  | true ↦ λ e. inl (grind (arith, nat_tests))
  | false ↦ λ e. inr (grind (arith, nat_tests))
] refl

-- the slots of a node below a number, and those of the nodes below one
abbrev pub OnNodeBelow : ℕ → ℕ → SlotId → Type 0
OnNodeBelow node count slot = (slot.node ≡ node) × (slot.index < count)

abbrev pub OnNodesBelow : ℕ → ℕ → SlotId → Type 0
OnNodesBelow first next slot = (first ≤ slot.node) × (slot.node < next)

-- the requests from a first number to one
abbrev pub Between : ℕ → ℕ → ℕ → Type 0
Between first next request = (first ≤ request) × (request < next)

-- ---- steps behind each other

passes_both : (at : ℕ) (H G F : List Entry) → Passes at H G → Passes at G F → Passes at H F
passes_both at H G F p q = record {
  in_time = λ early. q.in_time (p.in_time early);
  same_nodes = q.same_nodes ∙ p.same_nodes;
  same_requests = q.same_requests ∙ p.same_requests;
}

wants_free : (which : SlotWork) (h : Holder) → h ≡ free → wants which h ≡ false
wants_free work.LetGo h e = rw e refl
wants_free work.Free h e = rw e refl

other_both : (g h k : Holder) → (h ≡ g) ⊎ (h ≡ free) → (k ≡ h) ⊎ (k ≡ free) → (k ≡ g) ⊎ (k ≡ free)
other_both g h k p (inr e) = inr e
other_both g h k (inl f) (inl e) = inl (e ∙ f)
other_both g h k (inr f) (inl e) = inr (e ∙ f)

still_done : (which : SlotWork) (h k : Holder) → (k ≡ h) ⊎ (k ≡ free) → wants which h ≡ false → wants which k ≡ false
still_done which h k (inl e) none = subst (λ (g : Holder). wants which g ≡ false) (sym e) none
still_done which h k (inr e) none = wants_free which k e

pub clears_both : (which : SlotWork) (at : ℕ) (S T U : SlotId → Type 0) → ((s : SlotId) → U s → S s ⊎ T s) → (H G F : List Entry) → Clears which at S H G → Clears which at T G F → Clears which at U H F
clears_both which at S T U parts H G F p q = record {
  passes = passes_both at H G F p.passes q.passes;
  others = λ s. other_both _ _ _ (p.others s) (q.others s);
  places = λ e r. q.places e r ∙ p.places e r;
  done = λ early s is. by_part early s (parts s is);
}
  where
    by_part : clock H ≤ at → (s : SlotId) → S s ⊎ T s → wants which (holder F s) ≡ false
    by_part early s (inl is) = still_done which (holder G s) (holder F s) (q.others s) (p.done early s is)
    by_part early s (inr is) = q.done (p.passes.in_time early) s is

pub clears_so : (which : SlotWork) (at : ℕ) (S T : SlotId → Type 0) (H G : List Entry) → Clears which at S H G → ((s : SlotId) → T s → wants which (holder G s) ≡ false ⊎ S s) → Clears which at T H G
clears_so which at S T H G p parts = record {
  passes = p.passes;
  others = p.others;
  places = p.places;
  done = λ early s is. by_part early s (parts s is);
}
  where
    by_part : clock H ≤ at → (s : SlotId) → wants which (holder G s) ≡ false ⊎ S s → wants which (holder G s) ≡ false
    by_part early s (inl none) = none
    by_part early s (inr is) = p.done early s is

pub clears_nothing : (which : SlotWork) (at : ℕ) (S : SlotId → Type 0) (H : List Entry) → ((s : SlotId) → S s → wants which (holder H s) ≡ false) → Clears which at S H H
clears_nothing which at S H none = record {
  passes = record { in_time = λ early. early; same_nodes = refl; same_requests = refl };
  others = λ s. inl refl;
  places = λ e r. refl;
  done = λ early. none;
}

-- one slot more of a node
pub one_slot_more : (node i : ℕ) (s : SlotId) → OnNodeBelow node (i + 1) s → OnNodeBelow node i s ⊎ IsSlot (record { node = node; index = i }) s
one_slot_more node i s is = by_index (below_or i s.index is.1)
  where
    by_index : (s.index < i) ⊎ (s.index ≡ i) → OnNodeBelow node i s ⊎ IsSlot (record { node = node; index = i }) s
    by_index (inl h) = inl (is.0, h)
    by_index (inr e) = inr (rw (sym is.0, sym e) refl)

-- one node more
pub one_node_more : (first n : ℕ) (s : SlotId) → OnNodesBelow first (n + 1) s → OnNodesBelow first n s ⊎ OnNode n s
one_node_more first n s is = by_node (below_or n s.node is.1)
  where
    by_node : (s.node < n) ⊎ (s.node ≡ n) → OnNodesBelow first n s ⊎ OnNode n s
    by_node (inl h) = inl (is.0, h)
    by_node (inr e) = inr e

-- one request more
pub one_request_more : (first r q : ℕ) → Between first (r + 1) q → Between first r q ⊎ IsRequest r q
one_request_more first r q is = by_number (below_or r q is.1)
  where
    by_number : (q < r) ⊎ (q ≡ r) → Between first r q ⊎ IsRequest r q
    by_number (inl h) = inl (is.0, h)
    by_number (inr e) = inr e

pub takes_both : (at : ℕ) (S T U : ℕ → Type 0) → ((r : ℕ) → U r → S r ⊎ T r) → (H G F : List Entry) → TakesGiven at NoHeld S H G → TakesGiven at NoHeld T G F → TakesGiven at NoHeld U H F
takes_both at S T U parts H G F p q = record {
  passes = passes_both at H G F p.passes q.passes;
  held = λ none. q.held (p.held none);
  gone = λ r g. q.gone r (p.gone r g);
  done = λ early none r is. by_part early none r (parts r is);
}
  where
    by_part : clock H ≤ at → NoHeld H → (r : ℕ) → S r ⊎ T r → is_gone (place F r) ≡ true
    by_part early none r (inl is) = q.gone r (p.done early none r is)
    by_part early none r (inr is) = q.done (p.passes.in_time early) (p.held none) r is

pub takes_nothing : (at : ℕ) (given : List Entry → Type 0) (S : ℕ → Type 0) (H : List Entry) → ((r : ℕ) → given H → S r → is_gone (place H r) ≡ true) → TakesGiven at given S H H
takes_nothing at given S H none = record {
  passes = record { in_time = λ early. early; same_nodes = refl; same_requests = refl };
  held = λ n. n;
  gone = λ r g. g;
  done = λ early g r is. none r g is;
}

pub takes_so : (at : ℕ) (S T : ℕ → Type 0) (H G : List Entry) → TakesGiven at NoHeld S H G → ((r : ℕ) → T r → is_gone (place G r) ≡ true ⊎ S r) → TakesGiven at NoHeld T H G
takes_so at S T H G p parts = record {
  passes = p.passes;
  held = p.held;
  gone = p.gone;
  done = λ early none r is. by_part early none r (parts r is);
}
  where
    by_part : clock H ≤ at → NoHeld H → (r : ℕ) → is_gone (place G r) ≡ true ⊎ S r → is_gone (place G r) ≡ true
    by_part early none r (inl g) = g
    by_part early none r (inr is) = p.done early none r is

pub stays_both : (H G F : List Entry) → Stays H G → Stays G F → Stays H F
stays_both H G F p q = record { holders = λ s. q.holders s ∙ p.holders s; places = λ r. q.places r ∙ p.places r }

pub stays_nothing : (H : List Entry) → Stays H H
stays_nothing H = record { holders = λ s. refl; places = λ r. refl }

-- ---- all slots, and all requests

-- a node that registered has a number from the first on
node-from_first : Known → (c : HubConfig) (H : List Entry) (n : ℕ) → legal c H ≡ true → is_some (registration_of H n) ≡ true → c.first_node ≤ n
node-from_first proved c [] n l h = absurd (cc)
node-from_first proved c (e ∷ H) n l h =
    by_change e.caller e.change ((laws proved).legal-permitted c e H l) h (node-from_first proved c H n ((laws proved).legal-before c e H l))
  where
    by_change : (k : ℕ) (ch : Change) → permitted c H k ch ≡ true → is_some (registration_of (entry k ch ∷ H) n) ≡ true → (is_some (registration_of H n) ≡ true → c.first_node ≤ n) → c.first_node ≤ n
    by_change k (change.Registered m r at) p h before =
        let next : m ≡ next_node c H = (laws proved).permitted-Registered c H k m r at p in
        elim (nat_eq m n) as (λ v. nat_eq m n ≡ v → c.first_node ≤ n) [
          | true ↦ λ e. let same : m ≡ n = grind arith in omega arith
          | false ↦ λ e. before (grind arith)
        ] refl
    by_change k ch p h before = before h

right_of : (a b : Bool) → a ≡ false → (a || b) ≡ true → b ≡ true
right_of false b e h = h
right_of true b e h = absurd (cc)

-- a number among those from the first on
from_first : (f count r : ℕ) → list_any (nat_eq r) (numbers_from f count) ≡ true → (f ≤ r) × (r < f + count)
from_first f zero r h = absurd (cc)
from_first f (suc count) r h = by_first (nat_eq r f) refl h (λ there. from_first (f + 1) count r there)
  where
    by_first : (b : Bool) → nat_eq r f ≡ b → (nat_eq r f || list_any (nat_eq r) (numbers_from (f + 1) count)) ≡ true →
        (list_any (nat_eq r) (numbers_from (f + 1) count) ≡ true → (f + 1 ≤ r) × (r < f + 1 + count)) → (f ≤ r) × (r < f + suc count)
    by_first true e any later = let same : r ≡ f = grind (arith, nat_tests) in (omega (arith, same), omega (arith, same))
    by_first false e any later = let there : list_any (nat_eq r) (numbers_from (f + 1) count) ≡ true = right_of (nat_eq r f) _ e any in
        let found = later there in (omega (arith, found.0), omega (arith, found.1))

-- a slot that is not free is one of the nodes that have registered
pub slot_listed : Known → (which : SlotWork) (c : HubConfig) (H : List Entry) (s : SlotId) (next : ℕ) → legal c H ≡ true → next ≡ next_node c H →
    wants which (holder H s) ≡ false ⊎ OnNodesBelow c.first_node next s
slot_listed proved which c H s next l is = by_use (is_free (holder H s)) refl
  where
    free-is : (h : Holder) → is_free h ≡ true → h ≡ free
    free-is free e = refl
    free-is (held r) e = absurd (cc)
    free-is (busy x) e = absurd (cc)
    free-is closing e = absurd (cc)

    by_use : (b : Bool) → is_free (holder H s) ≡ b → wants which (holder H s) ≡ false ⊎ OnNodesBelow c.first_node next s
    by_use true e = inl (wants_free which (holder H s) (free-is (holder H s) e))
    by_use false e =
        let there : s.index < length (stereotypes_of H s.node) = (laws proved).used-slot c H s l e in
        let registered : is_some (registration_of H s.node) ≡ true = (laws proved).slot-registered H s.node s.index there in
        inr (node-from_first proved c H s.node l registered, rw is ((laws proved).node-below_next c H s.node l registered))

-- the same behind entries that register nobody
pub each_listed : Known → (which : SlotWork) (c : HubConfig) (ledger : GridLedger) (G H : List Entry) (s : SlotId) (next : ℕ) → Stands ledger G → ledger.config ≡ c → next ≡ next_node c H → nodes G ≡ nodes H →
    wants which (holder G s) ≡ false ⊎ OnNodesBelow c.first_node next s
each_listed proved which c ledger G H s next stands same is nodes_same =
    slot_listed proved which c G s next (subst (λ (d : HubConfig). legal d G ≡ true) same stands.is_legal) (is ∙ ap (λ (ns : List ℕ). c.first_node + length ns) (sym nodes_same))

few_at_registering : (c : HubConfig) (H : List Entry) (k m : ℕ) (r : _) (at : _) → permitted c H k (change.Registered m r at) ≡ true → length (stereotypes r.groups) ≤ MOST_SLOTS
unfolding permitted
few_at_registering c H k m r at p = grind (arith, nat_tests)

slots-few : Known → (c : HubConfig) (H : List Entry) (n : ℕ) → legal c H ≡ true → length (stereotypes_of H n) ≤ MOST_SLOTS
slots-few proved c [] n l = omega arith
slots-few proved c (e ∷ H) n l =
    by_change e.caller e.change ((laws proved).legal-permitted c e H l) (slots-few proved c H n ((laws proved).legal-before c e H l))
  where
    by_change : (k : ℕ) (ch : Change) → permitted c H k ch ≡ true → length (stereotypes_of H n) ≤ MOST_SLOTS → length (stereotypes_of (entry k ch ∷ H) n) ≤ MOST_SLOTS
    by_change k (change.Registered m r at) p before =
        let few = few_at_registering c H k m r at p in
        elim (nat_eq m n) as (λ v. nat_eq m n ≡ v → length (stereotypes_of (entry k (change.Registered m r at) ∷ H) n) ≤ MOST_SLOTS) [
          | true ↦ λ e. rw e few
          | false ↦ λ e. rw e before
        ] refl
    by_change k ch p before = before

-- a node's slot that is not free has a number below the most
pub slot_of_node : Known → (which : SlotWork) (c : HubConfig) (H : List Entry) (node : ℕ) (s : SlotId) → legal c H ≡ true → OnNode node s →
    wants which (holder H s) ≡ false ⊎ OnNodeBelow node MOST_SLOTS s
slot_of_node proved which c H node s l on = by_use (is_free (holder H s)) refl
  where
    free-is : (h : Holder) → is_free h ≡ true → h ≡ free
    free-is free e = refl
    free-is (held r) e = absurd (cc)
    free-is (busy x) e = absurd (cc)
    free-is closing e = absurd (cc)

    by_use : (b : Bool) → is_free (holder H s) ≡ b → wants which (holder H s) ≡ false ⊎ OnNodeBelow node MOST_SLOTS s
    by_use true e = inl (wants_free which (holder H s) (free-is (holder H s) e))
    by_use false e =
        let there : s.index < length (stereotypes_of H s.node) = (laws proved).used-slot c H s l e in
        let few = slots-few proved c H s.node l in
        inr (on, omega (arith, there, few))

-- a node of which no slot is in use
pub unused_node : Known → (which : SlotWork) (c : HubConfig) (H : List Entry) (node : ℕ) (b : Bool) → legal c H ≡ true → b ≡ has_slot_in_use H node → b ≡ false →
    (s : SlotId) → OnNode node s → wants which (holder H s) ≡ false
unused_node proved which c H node b l is unused s on =
    wants_free which (holder H s) ((laws proved).unlisted-free c H node s l (sym is ∙ unused) (same (sym on)))
  where
    same : node ≡ s.node → nat_eq node s.node ≡ true
    same e = grind (arith, nat_tests)

-- the same for the slots that were gone through
pub slot_below : {P : Type 0} (node i : ℕ) (s : SlotId) → MOST_SLOTS ≤ i → P ⊎ OnNodeBelow node MOST_SLOTS s → P ⊎ OnNodeBelow node i s
slot_below node i s more (inl p) = inl p
slot_below node i s more (inr on) = inr (on.0, omega (arith, more, on.1))

pub nodes_below : {P : Type 0} (first next n : ℕ) (s : SlotId) → next ≤ n → P ⊎ OnNodesBelow first next s → P ⊎ OnNodesBelow first n s
nodes_below first next n s more (inl p) = inl p
nodes_below first next n s more (inr on) = inr (on.0, omega (arith, more, on.1))

-- ---- which requests there are

-- a request that is not over is one of those that were queued
pub request_listed : Known → (ledger : GridLedger) (c : HubConfig) (H : List Entry) (next r : ℕ) → Stands ledger H → ledger.config ≡ c → next ≡ next_request c H → is_gone (place H r) ≡ true ⊎ Between c.first_request next r
request_listed proved ledger c H next r s same is = by_row (row ledger.requests r) refl
  where
    lawful : legal c H ≡ true
    lawful = subst (λ (d : HubConfig). legal d H ≡ true) same s.is_legal

    by_row : (o : Option Request) → row ledger.requests r ≡ o → is_gone (place H r) ≡ true ⊎ Between c.first_request next r
    by_row None e = inl (s.requests_stand.missing r e)
    by_row (Some q) e =
        let tells = s.requests_stand.found r q e in
        let numbered = from_first c.first_request (length (requests H)) r
        (subst (λ (rs : List ℕ). list_any (nat_eq r) rs ≡ true) (((laws proved).numbered c).of_requests H lawful) ((laws proved).asked-listed H r (rw tells.asks refl))) in
        inr (numbered.0, omega (arith, numbered.1, is))

-- the same behind entries that queue nothing
pub each_request_listed : Known → (ledger : GridLedger) (c : HubConfig) (G H : List Entry) (next n r : ℕ) → Stands ledger G → ledger.config ≡ c → next ≡ next_request c H → requests G ≡ requests H → next ≤ n →
    is_gone (place G r) ≡ true ⊎ Between c.first_request n r
each_request_listed proved ledger c G H next n r s same is no_new more =
    by_part (request_listed proved ledger c G next r s same (is ∙ ap (λ (rs : List ℕ). c.first_request + length rs) (sym no_new)))
  where
    by_part : is_gone (place G r) ≡ true ⊎ Between c.first_request next r → is_gone (place G r) ≡ true ⊎ Between c.first_request n r
    by_part (inl gone) = inl gone
    by_part (inr on) = inr (on.0, omega (arith, more, on.1))

pub works_both : (w : RequestWork) (at : ℕ) (S T U : ℕ → Type 0) → ((r : ℕ) → U r → S r ⊎ T r) → (H G F : List Entry) → Works w at S H G → Works w at T G F → Works w at U H F
works_both asked_work.Settle at S T U parts H G F p q = takes_both at S T U parts H G F p q
works_both asked_work.Touch at S T U parts H G F p q = stays_both H G F p q

pub works_nothing : (w : RequestWork) (at : ℕ) (S : ℕ → Type 0) (H : List Entry) → ((r : ℕ) → S r → ⊥) → Works w at S H H
works_nothing asked_work.Settle at S H none = takes_nothing at NoHeld S H (λ r n is. absurd (none r is))
works_nothing asked_work.Touch at S H none = stays_nothing H

pub works_so : (w : RequestWork) (at : ℕ) (S T : ℕ → Type 0) (H G : List Entry) → Works w at S H G → (requests G ≡ requests H → (r : ℕ) → T r → is_gone (place G r) ≡ true ⊎ S r) → Works w at T H G
works_so asked_work.Settle at S T H G p parts = takes_so at S T H G p (parts p.passes.same_requests)
works_so asked_work.Touch at S T H G p parts = p

-- ---- one request

pub still_untaken : (k r at : ℕ) (H G : List Entry) → IsUntakenOf k r H → Ends at H G → IsUntakenOf k r G
still_untaken k r at H G given p = record {
  stands = subst (λ (s : Place). is_untaken s ≡ true) (sym (p.places r)) given.stands;
  asker = subst (λ (o : Option Asked). is_caller k (option_map (λ asked. asked.caller) o) ≡ true) (sym (p.asked r)) given.asker;
}

pub ends_takes : (k r at : ℕ) (H G F : List Entry) → Ends at H G → TakesGiven at (IsUntakenOf k r) (IsRequest r) G F → TakesGiven at (IsUntakenOf k r) (IsRequest r) H F
ends_takes k r at H G F p q = record {
  passes = passes_both at H G F p.passes q.passes;
  held = λ none. q.held (p.held none);
  gone = λ n g. q.gone n (subst (λ (s : Place). is_gone s ≡ true) (sym (p.places n)) g);
  done = λ early given n is. q.done (p.passes.in_time early) (still_untaken k r at H G given p) n is;
}

pub cleared_takes : (r at : ℕ) (H G F : List Entry) → ClearsOne at r H G → TakesGiven at (IsSettledOrGone r) (IsRequest r) G F → TakesGiven at NoHeld (IsRequest r) H F
cleared_takes r at H G F p q = record {
  passes = passes_both at H G F p.passes q.passes;
  held = λ none. q.held (p.held none);
  gone = λ n g. q.gone n (p.gone n g);
  done = λ early none n is. q.done (p.passes.in_time early) (p.settled early none) n is;
}

-- one request's outcome was taken by its caller, or there is none to take
pub takes_given : (r at : ℕ) (given : List Entry → Type 0) (H G : List Entry) → given H → TakesGiven at given (IsRequest r) H G → TakesGiven at (IsSettledOrGone r) (IsRequest r) H G
takes_given r at given H G has p = record { passes = p.passes; held = p.held; gone = p.gone; done = λ early any n is. p.done early has n is }

-- ---- the whole

open_none : (h : Holder) → is_held_slot h ≡ false → is_closing h ≡ false → is_open h ≡ false
open_none free e f = refl
open_none (busy x) e f = refl
open_none (held r) e f = absurd (cc)
open_none closing e f = absurd (cc)

held_free : (h k : Holder) → (k ≡ h) ⊎ (k ≡ free) → is_held_slot h ≡ false → is_held_slot k ≡ false
held_free h k (inl e) none = rw e none
held_free h k (inr e) none = rw e refl

pub settles : (at : ℕ) (H G F : List Entry) → Clears work.LetGo at EachSlot H G → TakesGiven at NoHeld EachRequest G F → Settles at H F
settles at H G F p q = λ early.
    let none : NoHeld G = λ s. p.done early s tt in
    let later = p.passes.in_time early in
    (q.passes.in_time later, q.held none, λ r. q.done later none r tt)

pub refreshes : (at : ℕ) (H G F : List Entry) → Clears work.Free at EachSlot H G → Stays G F → Refreshes at H F
refreshes at H G F p q = λ early none gone. (
  λ s. subst (λ (h : Holder). is_open h ≡ false) (sym (q.holders s)) (open_none (holder G s) (held_free (holder H s) (holder G s) (p.others s) (none s)) (p.done early s tt)),
  λ r. subst (λ x. is_gone x ≡ true) (sym (q.places r ∙ p.places refl r)) (gone r),
)

pub closes : (at : ℕ) (H G F : List Entry) → Settles at H G → Refreshes at G F → Closes at H F
closes at H G F p q = λ early. let one = p early in q one.0 one.1 one.2
