-- A change noted in all tables, and a node let go.
use Rattle.std.proofs.Common.{◌≡◌, ◌∙◌, ℕ, ◌++◌, length, ◌+◌, ◌-◌, ◌^◌, min, max, Bool, true, false, List, [], ◌∷◌, refl, subst, sym, arith, length-append}
use Rattle.std.specs.Prelude.{Result, Ok, Err, OnOk, unwrap_or, nat_eq, nat_lt, nat_le}
use Rattle.std.proofs.lemmas.Bool.Decides.{nat_tests}
use Rattle.grid_types.specs.declared.entry.Entry.{Entry}
use Rattle.grid_types.specs.declared.entry.Change.{Change}
use Rattle.grid_types.specs.declared.entry.Change.TheVariants as change
use Rattle.grid_types.specs.declared.entry.EndCause.{EndCause}
use Rattle.grid_types.specs.declared.names.Moment.{Moment}
use Rattle.grid_types.specs.declared.names.SlotId.{SlotId}
use Rattle.grid_types.specs.declared.capabilities.Cap.{Cap}
use Rattle.grid_types.specs.declared.capabilities.Registration.{Registration}
use Rattle.grid_types.specs.declared.config.HubConfig.{HubConfig}
use Rattle.grid_types.specs.Capabilities.{request_bytes}
use Rattle.grid_types.specs.History.{nodes, requests, moment_of, next_node, next_request}
use Rattle.grid_types.specs.Nodes.{is_registered}
use Rattle.grid_types.specs.Sessions.{is_live}
use Rattle.grid_types.specs.Slots.{is_listed, has_slot_in_use}
use Rattle.grid_types.specs.Requests.{unsettled_bytes}
use Rattle.grid_types.specs.Permitted.{permitted, most_bytes}
use Rattle.grid_types.specs.Legal.{legal}
use Rattle.grid_types.specs.Tables.{entry, Follows, FollowsGiven}
use Rattle.node_registry.specs.Table as of_node
use Rattle.reservation.specs.Table as of_slot
use Rattle.session_queue.specs.Table as of_request
use Rattle.session_map.specs.Table as of_session
use Rattle.grid_ledger.specs.declared.ledger.GridLedger.{GridLedger}
use Rattle.grid_ledger.specs.LedgerStands.{Stands, Keeps, Notes}
use Rattle.grid_ledger.proofs.BoolLemmas.{and_left, and_right}

-- a change that a legal history ends with is permitted after those before
pub last_permitted : (c : HubConfig) (H : List Entry) (k : ℕ) (ch : Change) → legal c (entry k ch ∷ H) ≡ true → permitted c H k ch ≡ true
last_permitted c H k ch l = and_right _ _ l

-- each table follows the change, for the histories of which what the step was given holds
pub record TablesFollow (so : List Entry → Type 0) (old new : GridLedger) (k : ℕ) (ch : Change) : Type 0 where
  pub nodes : FollowsGiven of_node.Stands so old.nodes new.nodes k ch
  pub slots : FollowsGiven of_slot.Stands so old.slots new.slots k ch
  pub requests : FollowsGiven of_request.Stands so old.requests new.requests k ch
  pub sessions : FollowsGiven of_session.Stands so old.sessions new.sessions k ch

-- the next numbers and the clock follow the change
pub record CountsFollow (old new : GridLedger) (k : ℕ) (ch : Change) : Type 0 where
  pub nodes : (H : List Entry) → old.next_node ≡ next_node old.config H → legal old.config (entry k ch ∷ H) ≡ true → new.next_node ≡ next_node old.config (entry k ch ∷ H)
  pub requests : (H : List Entry) → old.next_request ≡ next_request old.config H → legal old.config (entry k ch ∷ H) ≡ true → new.next_request ≡ next_request old.config (entry k ch ∷ H)
  pub clock : new.clock.0 ≡ max (unwrap_or (moment_of ch) 0) old.clock.0

-- what follows follows also where something is given
pub given : {T : Type 0} {stands : T → List Entry → Type 0} {so : List Entry → Type 0} {old new : T} {k : ℕ} {ch : Change} → Follows stands old new k ch → FollowsGiven stands so old new k ch
given f = record { after = λ c H g s l. f.after c H s l }

-- where for each legal history that goes on by the change the step was given what it needs
pub noted-given : (so : List Entry → Type 0) (old new : GridLedger) (k : ℕ) (ch : Change) → new.config ≡ old.config →
    ((H : List Entry) → Stands old H → legal old.config (entry k ch ∷ H) ≡ true → so H) →
    TablesFollow so old new k ch → CountsFollow old new k ch → Notes old new k ch
noted-given so old new k ch same is_so tables counts = record {
  same_config = same;
  after = λ H s l. record {
    nodes_stand = tables.nodes.after old.config H (is_so H s l) s.nodes_stand l;
    slots_stand = tables.slots.after old.config H (is_so H s l) s.slots_stand l;
    requests_stand = tables.requests.after old.config H (is_so H s l) s.requests_stand l;
    sessions_stand = tables.sessions.after old.config H (is_so H s l) s.sessions_stand l;
    counts_nodes = subst (λ (c : HubConfig). new.next_node ≡ next_node c (entry k ch ∷ H)) (sym same) (counts.nodes H s.counts_nodes l);
    counts_requests = subst (λ (c : HubConfig). new.next_request ≡ next_request c (entry k ch ∷ H)) (sym same) (counts.requests H s.counts_requests l);
    tells_clock = subst (λ (m : ℕ). new.clock.0 ≡ max (unwrap_or (moment_of ch) 0) m) s.tells_clock counts.clock;
    is_legal = subst (λ (c : HubConfig). legal c (entry k ch ∷ H) ≡ true) (sym same) l;
  };
}

abbrev pub Any : List Entry → Type 0
Any H = Unit {0}

pub noted : (old new : GridLedger) (k : ℕ) (ch : Change) → new.config ≡ old.config → TablesFollow Any old new k ch → CountsFollow old new k ch → Notes old new k ch
noted old new k ch same tables counts = noted-given Any old new k ch same (λ H s l. tt) tables counts

-- tables that stand for the same histories
pub record TablesKeep (old new : GridLedger) : Type 0 where
  pub nodes : (H : List Entry) → Stands old H → of_node.Stands new.nodes H
  pub slots : (H : List Entry) → Stands old H → of_slot.Stands new.slots H

pub keeps : (old new : GridLedger) → new.config ≡ old.config → new.next_node ≡ old.next_node → new.next_request ≡ old.next_request → new.clock ≡ old.clock →
    new.requests ≡ old.requests → new.sessions ≡ old.sessions → TablesKeep old new → Keeps old new
keeps old new same nodes requests time asked live tables = record {
  same_config = same;
  still = λ H s. record {
    nodes_stand = tables.nodes H s;
    slots_stand = tables.slots H s;
    requests_stand = rw asked s.requests_stand;
    sessions_stand = rw live s.sessions_stand;
    counts_nodes = rw (nodes, same) s.counts_nodes;
    counts_requests = rw (requests, same) s.counts_requests;
    tells_clock = rw time s.tells_clock;
    is_legal = rw same s.is_legal;
  };
}

-- a step that keeps what the tables stand for changes nothing of what was noted
pub noted-kept : (old between new : GridLedger) (k : ℕ) (ch : Change) → Notes old between k ch → Keeps between new → Notes old new k ch
noted-kept old between new k ch n kept = record {
  same_config = kept.same_config ∙ n.same_config;
  after = λ H s l. kept.still (entry k ch ∷ H) (n.after H s l);
}

below-end : (n last : ℕ) → nat_lt n last ≡ true → min (n + 1) last ≡ n + 1
below-end n last h = grind (arith, nat_tests)

one-next : (n first : ℕ) (xs : List ℕ) (last : ℕ) → nat_eq n (first + length xs) ≡ true → nat_lt n last ≡ true → min (n + 1) last ≡ first + length (xs ++ n ∷ [])
one-next n first xs last e h = below-end n last h ∙ omega (arith, length-append xs (n ∷ []), same n (first + length xs) e)
  where
    same : (a b : ℕ) → nat_eq a b ≡ true → a ≡ b
    same a b h = grind arith

-- a node that registers takes the next number, and the next is one more
pub node-next : (c : HubConfig) (H : List Entry) (k n : ℕ) (r : Registration) (at : Moment) → legal c (entry k (change.Registered n r at) ∷ H) ≡ true →
    min (n + 1) (2 ^ 32 - 1) ≡ next_node c (entry k (change.Registered n r at) ∷ H)
unfolding permitted
node-next c H k n r at l =
    let p = and_right _ _ l in
    let first = and_left _ _ (and_left _ _ (and_left _ _ p)) in
    one-next n c.first_node (nodes H) (2 ^ 32 - 1) (and_right _ _ (and_left _ _ first)) (and_right _ _ first)

pub request-next : (c : HubConfig) (H : List Entry) (k n : ℕ) (choices : List (List Cap)) (d at : Moment) → legal c (entry k (change.Queued n choices d at) ∷ H) ≡ true →
    min (n + 1) (2 ^ 64 - 1) ≡ next_request c (entry k (change.Queued n choices d at) ∷ H)
unfolding permitted
request-next c H k n choices d at l =
    let p = and_right _ _ l in
    let first = and_left _ _ (and_left _ _ (and_left _ _ (and_left _ _ (and_left _ _ p)))) in
    one-next n c.first_request (requests H) (2 ^ 64 - 1) (and_right _ _ (and_left _ _ first)) (and_right _ _ first)

-- the bytes of a request that is queued are few
within-end : (have bytes : ℕ) → nat_le (have + bytes) most_bytes ≡ true → min bytes (2 ^ 64 - 1) ≡ bytes
within-end have bytes h = grind (arith, nat_tests)

pub queued-bytes : (c : HubConfig) (H : List Entry) (k n : ℕ) (choices : List (List Cap)) (d at : Moment) → legal c (entry k (change.Queued n choices d at) ∷ H) ≡ true →
    min (request_bytes choices) (2 ^ 64 - 1) ≡ request_bytes choices
unfolding permitted
queued-bytes c H k n choices d at l =
    let room = and_right _ _ (and_left _ _ (and_right _ _ l)) in
    within-end (unsettled_bytes H) (request_bytes choices) (and_right _ _ room)

-- a session is bound on a registered node, and ends while it is live
pub bound-registered : (c : HubConfig) (H : List Entry) (k r : ℕ) (s : SlotId) (x : List ℕ) (caps : List Cap) (at : Moment) → legal c (entry k (change.Bound r s x caps at) ∷ H) ≡ true →
    is_registered H s.node ≡ true
unfolding permitted
bound-registered c H k r s x caps at l = and_right _ _ (and_left _ _ (and_left _ _ (and_right _ _ l)))

pub ended-live : (c : HubConfig) (H : List Entry) (k b : ℕ) (e : EndCause) (at : Moment) → legal c (entry k (change.Ended b e at) ∷ H) ≡ true → is_live H b ≡ true
unfolding permitted
ended-live c H k b e at l = and_right _ _ (and_left _ _ (and_right _ _ l))

-- a node that neither is registered nor has a slot in use is not listed
pub unlisted : (H : List Entry) (n : ℕ) (registered used : Bool) → registered ≡ is_registered H n → used ≡ has_slot_in_use H n → registered ≡ false → used ≡ false → is_listed H n ≡ false
unlisted H n registered used e f is_not has_none = rw (sym e ∙ is_not, sym f ∙ has_none) refl

-- a registered node is listed
pub registered-listed : (H : List Entry) (n : ℕ) → is_registered H n ≡ true → is_listed H n ≡ true
registered-listed H n h = rw h refl

-- a change without a moment leaves the clock as it is
pub no-sooner : (n : ℕ) → n ≡ max 0 n
no-sooner n = omega arith

-- what holds for every caller where there was memory holds for this one
pub ok_at : {A B : Type 0} (r : Result A B) (P : ℕ → Type 0) (k : ℕ) → OnOk r ((n : ℕ) → P n) → OnOk r (P k)
ok_at (Ok x) P k h = h k
ok_at (Err e) P k h = h
