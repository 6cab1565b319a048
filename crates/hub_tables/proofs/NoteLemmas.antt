-- What the calls do: a change noted in all tables, and nothing changed at all.
use Rattle.std.proofs.Common.{◌≡◌, ℕ, ◌+◌, max, true, List, ◌∷◌, refl, subst, sym, ap, arith, ◌∙◌}
use Rattle.std.proofs.Common.{Bool, false, ◌&&◌, ◌||◌, ◌<◌, zero, suc, [], length, length-append}
use Rattle.std.specs.Prelude.{Option, None, Some, Result, Ok, Err, OnErr, is_some, nat_eq, unwrap_or}
use Rattle.std.specs.List.{list_any}
use Rattle.std.proofs.lemmas.List.Folds.{list_any-append}
use Rattle.grid_types.specs.declared.entry.Change.TheVariants as change
use Rattle.grid_types.specs.declared.names.Moment.{Moment}
use Rattle.grid_types.specs.declared.capabilities.Cap.{Cap}
use Rattle.grid_types.specs.declared.capabilities.Registration.{Registration}
use Rattle.grid_types.specs.History.{nodes, requests}
use Rattle.grid_types.specs.Nodes.{registration_of, is_registered}
use Rattle.grid_types.specs.Slots.{is_listed, has_slot_in_use}
use Rattle.grid_types.specs.Permitted.{permitted}
use Rattle.grid_types.specs.declared.entry.Entry.{Entry}
use Rattle.grid_types.specs.declared.entry.Change.{Change}
use Rattle.grid_types.specs.declared.config.HubConfig.{HubConfig}
use Rattle.grid_types.specs.History.{moment_of, next_node, next_request}
use Rattle.grid_types.specs.Legal.{legal}
use Rattle.grid_types.specs.Lists.{numbers_from}
use Rattle.grid_types.specs.OneMoreEntry.{NumberedOneByOne}
use Rattle.grid_types.specs.Tables.{entry, Follows, FollowsGiven}
use Rattle.request_laws.specs.Memory.{below_kept}
use Rattle.node_registry.specs.declared.node_table.NodeTable.{NodeTable}
use Rattle.node_registry.specs.Table as of_node
use Rattle.reservation.specs.declared.slot_table.SlotTable.{SlotTable}
use Rattle.reservation.specs.Table as of_slot
use Rattle.session_queue.specs.declared.request_table.RequestTable.{RequestTable}
use Rattle.session_queue.specs.Table as of_request
use Rattle.session_map.specs.declared.live_map.LiveMap.{LiveMap}
use Rattle.session_map.specs.Table as of_session
use Rattle.grid_types.specs.Tables.{is_node_change, is_slot_change, is_request_change, is_session_change}
use Rattle.hub_tables.specs.declared.tables.HubTables.{HubTables}
use Rattle.hub_tables.specs.Laws.{TableLaws}
use Rattle.hub_tables.specs.Tables.{Stands, Keeps, Notes, NotesGiven}

-- the history before an entry of a legal history is legal
pub before : (c : HubConfig) (H : List Entry) (k : ℕ) (ch : Change) → legal c (entry k ch ∷ H) ≡ true → legal c H ≡ true
before c H k ch l = first (legal c H) (permitted c H k ch) l
  where
    first : (a b : Bool) → (a && b) ≡ true → a ≡ true
    first true b h = refl
    first false b h = absurd (cc)

-- each table follows the change
pub record TablesFollow (given : List Entry → Type 0) (old new : HubTables) (k : ℕ) (ch : Change) : Type 0 where
  pub nodes : FollowsGiven of_node.Stands given old.nodes new.nodes k ch
  pub slots : FollowsGiven of_slot.Stands given old.slots new.slots k ch
  pub requests : FollowsGiven of_request.Stands given old.requests new.requests k ch
  pub sessions : FollowsGiven of_session.Stands given old.sessions new.sessions k ch

-- the next numbers and the clock follow the change
pub record CountsFollow (old new : HubTables) (k : ℕ) (ch : Change) : Type 0 where
  pub nodes : (c : HubConfig) (H : List Entry) → old.next_node ≡ next_node c H → legal c (entry k ch ∷ H) ≡ true → new.next_node ≡ next_node c (entry k ch ∷ H)
  pub requests : (c : HubConfig) (H : List Entry) → old.next_request ≡ next_request c H → legal c (entry k ch ∷ H) ≡ true → new.next_request ≡ next_request c (entry k ch ∷ H)
  pub clock : new.clock.0 ≡ max (unwrap_or (moment_of ch) 0) old.clock.0
  pub below : (c : HubConfig) (H : List Entry) → Stands c old H → legal c H ≡ true → new.searched_below ≡ below_kept H ch old.searched_below
  pub from : new.searched_from ≡ old.searched_from

-- what follows follows also where something is given
pub given : {T : Type 0} {stands : T → List Entry → Type 0} {so : List Entry → Type 0} {old new : T} {k : ℕ} {ch : Change} → Follows stands old new k ch → FollowsGiven stands so old new k ch
given f = record { after = λ c H g s l. f.after c H s l }

-- a table that does not take changes of the kind stays as it is
pub nodes-stay : (laws : TableLaws) → {so : List Entry → Type 0} (t : NodeTable) (k : ℕ) (ch : Change) → is_node_change ch ≡ false → FollowsGiven of_node.Stands so t t k ch
nodes-stay laws t k ch other = given (laws.nodes_keep t k ch other)

pub slots-stay : (laws : TableLaws) → {so : List Entry → Type 0} (t : SlotTable) (k : ℕ) (ch : Change) → is_slot_change ch ≡ false → FollowsGiven of_slot.Stands so t t k ch
slots-stay laws t k ch other = given (laws.slots_keep t k ch other)

pub requests-stay : (laws : TableLaws) → {so : List Entry → Type 0} (t : RequestTable) (k : ℕ) (ch : Change) → is_request_change ch ≡ false → FollowsGiven of_request.Stands so t t k ch
requests-stay laws t k ch other = given (laws.requests_keep t k ch other)

pub sessions-stay : (laws : TableLaws) → {so : List Entry → Type 0} (t : LiveMap) (k : ℕ) (ch : Change) → is_session_change ch ≡ false → FollowsGiven of_session.Stands so t t k ch
sessions-stay laws t k ch other = given (laws.sessions_keep t k ch other)

pub noted-given : (laws : TableLaws) (so : List Entry → Type 0) (old new : HubTables) (k : ℕ) (ch : Change) → TablesFollow so old new k ch → CountsFollow old new k ch → NotesGiven so old new k ch
noted-given laws so old new k ch tables counts = record {
  after = λ c H g s l. record {
    nodes_stand = tables.nodes.after c H g s.nodes_stand l;
    slots_stand = tables.slots.after c H g s.slots_stand l;
    requests_stand = tables.requests.after c H g s.requests_stand l;
    sessions_stand = tables.sessions.after c H g s.sessions_stand l;
    counts_nodes = counts.nodes c H s.counts_nodes l;
    counts_requests = counts.requests c H s.counts_requests l;
    tells_clock = subst (λ (m : ℕ). new.clock.0 ≡ max (unwrap_or (moment_of ch) 0) m) s.tells_clock counts.clock;
    searched = rw (counts.below c H s (before c H k ch l), counts.from) (laws.below_stays c H k ch old.searched_below old.searched_from.0 l s.searched);
  };
}

abbrev pub Any : List Entry → Type 0
Any H = Unit {0}

pub noted : (laws : TableLaws) (old new : HubTables) (k : ℕ) (ch : Change) → TablesFollow Any old new k ch → CountsFollow old new k ch → Notes old new k ch
noted laws old new k ch tables counts =
    let all : NotesGiven Any old new k ch = noted-given laws Any old new k ch tables counts in
    record { after = λ c H s l. all.after c H tt s l }

-- other tables for the same histories
pub record TablesKeep (old new : HubTables) : Type 0 where
  pub nodes : (c : HubConfig) (H : List Entry) → Stands c old H → legal c H ≡ true → of_node.Stands new.nodes H
  pub slots : (c : HubConfig) (H : List Entry) → Stands c old H → legal c H ≡ true → of_slot.Stands new.slots H
  pub requests : (c : HubConfig) (H : List Entry) → Stands c old H → legal c H ≡ true → of_request.Stands new.requests H
  pub sessions : (c : HubConfig) (H : List Entry) → Stands c old H → legal c H ≡ true → of_session.Stands new.sessions H

pub keeps : (old new : HubTables) → new.next_node ≡ old.next_node → new.next_request ≡ old.next_request → new.clock ≡ old.clock → new.searched_below ≡ old.searched_below → new.searched_from ≡ old.searched_from → TablesKeep old new → Keeps old new
keeps old new nodes requests time below from tables = record {
  still = λ c H s l. record {
    nodes_stand = tables.nodes c H s l;
    slots_stand = tables.slots c H s l;
    requests_stand = tables.requests c H s l;
    sessions_stand = tables.sessions c H s l;
    counts_nodes = rw nodes s.counts_nodes;
    counts_requests = rw requests s.counts_requests;
    tells_clock = rw time s.tells_clock;
    searched = rw (below, from) s.searched;
  };
}

-- a step that keeps what the tables stand for changes nothing of what was noted
pub noted-kept : (old between new : HubTables) (k : ℕ) (ch : Change) → Notes old between k ch → Keeps between new → Notes old new k ch
noted-kept old between new k ch n kept = record {
  after = λ c H s l. kept.still c (entry k ch ∷ H) (n.after c H s l) l;
}

-- a node that registers takes the next number, and the next is one more
pub node-next : (c : HubConfig) (H : List Entry) (k n : ℕ) (r : Registration) (at : Moment) → n ≡ next_node c H → n + 1 ≡ next_node c (entry k (change.Registered n r at) ∷ H)
node-next c H k n r at e = omega (arith, length-append (nodes H) (n ∷ []))

pub request-next : (c : HubConfig) (H : List Entry) (k n : ℕ) (choices : List (List Cap)) (d at : Moment) → n ≡ next_request c H → n + 1 ≡ next_request c (entry k (change.Queued n choices d at) ∷ H)
request-next c H k n choices d at e = omega (arith, length-append (requests H) (n ∷ []))

or-true : (a : Bool) → (a || true) ≡ true
or-true true = refl
or-true false = refl

-- a node that registered is among the nodes
registered-listed : (H : List Entry) (n : ℕ) → is_some (registration_of H n) ≡ true → list_any (nat_eq n) (nodes H) ≡ true
registered-listed [] n h = absurd (cc)
registered-listed (e ∷ H) n h = by_change e.caller e.change h (registered-listed H n)
  where
    by_change : (k : ℕ) (ch : Change) → is_some (registration_of (entry k ch ∷ H) n) ≡ true → (is_some (registration_of H n) ≡ true → list_any (nat_eq n) (nodes H) ≡ true) → list_any (nat_eq n) (nodes (entry k ch ∷ H)) ≡ true
    by_change k (change.Registered m r at) h old = list_any-append (nat_eq n) (nodes H) (m ∷ []) ∙ by_number (nat_eq m n) refl
      where
        by_number : (v : Bool) → nat_eq m n ≡ v → (list_any (nat_eq n) (nodes H) || (nat_eq n m || false)) ≡ true
        by_number true f = let same : nat_eq n m ≡ true = grind arith in rw same (or-true (list_any (nat_eq n) (nodes H)))
        by_number false f = let there : list_any (nat_eq n) (nodes H) ≡ true = old (rw f at h) in rw there refl
    by_change k ch h old = old h

-- numbers that are counted from a first one are below the one after them
numbers-below : (first count n : ℕ) → list_any (nat_eq n) (numbers_from first count) ≡ true → n < first + count
numbers-below first zero n h = absurd (cc)
numbers-below first (suc count) n h = by_number (nat_eq n first) refl (numbers-below (first + 1) count n)
  where
    by_number : (v : Bool) → nat_eq n first ≡ v → (list_any (nat_eq n) (numbers_from (first + 1) count) ≡ true → n < (first + 1) + count) → n < first + suc count
    by_number true f rest = let same : n ≡ first = grind arith in omega arith
    by_number false f rest = let later : n < (first + 1) + count = rest (rw f at h) in omega arith

-- no node has the next number
pub next-unregistered : (laws : (c : HubConfig) → NumberedOneByOne c) (c : HubConfig) (H : List Entry) (n : ℕ) → legal c H ≡ true → n ≡ next_node c H → registration_of H n ≡ None
next-unregistered laws c H n l e = by_registration (registration_of H n) refl
  where
    by_registration : (o : Option Registration) → registration_of H n ≡ o → o ≡ None
    by_registration None f = refl
    by_registration (Some r) f =
        let there : is_some (registration_of H n) ≡ true = ap is_some f in
        let among : list_any (nat_eq n) (numbers_from c.first_node (length (nodes H))) ≡ true = subst (λ (xs : List ℕ). list_any (nat_eq n) xs ≡ true) ((laws c).of_nodes H l) (registered-listed H n there) in
        let below : n < c.first_node + length (nodes H) = numbers-below c.first_node (length (nodes H)) n among in
        absurd (omega arith)

-- a node that neither is registered nor has a slot in use is not listed
pub unlisted : (H : List Entry) (n : ℕ) (registered used : Bool) → registered ≡ is_registered H n → used ≡ has_slot_in_use H n → registered ≡ false → used ≡ false → is_listed H n ≡ false
unlisted H n registered used e f is_not has_none = rw (sym e ∙ is_not, sym f ∙ has_none) refl

-- a node that is registered or has a slot in use is listed
pub listed-still : {P : Type 0} (H : List Entry) (n : ℕ) (registered : Bool) → registered ≡ is_registered H n → registered ≡ true → is_listed H n ≡ false → P
listed-still H n registered e is u =
    let there : is_registered H n ≡ true = sym e ∙ is in
    let listed : is_listed H n ≡ true = rw there refl in
    let never : true ≡ false = sym listed ∙ u in
    absurd (cc)

pub used-still : {P : Type 0} (H : List Entry) (n : ℕ) (used : Bool) → used ≡ has_slot_in_use H n → used ≡ true → is_listed H n ≡ false → P
used-still H n used e is u =
    let there : has_slot_in_use H n ≡ true = sym e ∙ is in
    let listed : is_listed H n ≡ true = rw there (or-true (is_registered H n)) in
    let never : true ≡ false = sym listed ∙ u in
    absurd (cc)

-- a change without a moment leaves the clock as it is
pub no-sooner : (n : ℕ) → n ≡ max 0 n
no-sooner n = omega arith

pub any-err : {U E : Type 0} {P : Type 0} (r : Result U E) → P → OnErr r P
any-err (Ok u) h = tt
any-err (Err e) h = h
