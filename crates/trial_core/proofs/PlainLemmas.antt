-- What the calls of a worked case make of a plain history.
use Rattle.std.proofs.Common.{◌≡◌, ℕ, ◌+◌, ◌-◌, ◌^◌, ◌≤◌, Bool, true, false, cond, not, ◌&&◌, ◌||◌, max, List, [], ◌∷◌, ◌++◌, length, map, refl, subst, arith, length-append}
use Rattle.std.specs.Prelude.{Option, None, Some, option_map, unwrap_or, is_some, nat_eq, nat_le, nat_lt, find}
use Rattle.std.specs.List.{list_any}
use Rattle.grid_types.specs.declared.config.HubConfig.{HubConfig}
use Rattle.grid_types.specs.declared.entry.Entry.{Entry}
use Rattle.grid_types.specs.declared.entry.Change.TheVariants as change
use Rattle.grid_types.specs.declared.entry.Outcome.{Outcome}
use Rattle.grid_types.specs.declared.entry.Outcome.TheVariants as outcome
use Rattle.grid_types.specs.declared.names.Moment.{Moment}
use Rattle.grid_types.specs.declared.capabilities.Cap.{Cap}
use Rattle.grid_types.specs.declared.capabilities.Registration.{Registration}
use Rattle.grid_types.specs.Capabilities.{request_bytes}
use Rattle.grid_types.specs.Lists.{when, or_else, earlier}
use Rattle.grid_types.specs.History.{after, clock, nodes, requests, next_node, next_request}
use Rattle.grid_types.specs.Nodes.{registration_of}
use Rattle.grid_types.specs.Slots.{listed}
use Rattle.grid_types.specs.Requests.{Asked, place, place_by, is_waiting, is_taken, outcome_of, is_reserved, asked_of, unsettled, unsettled_bytes, waiting_requests}
use Rattle.grid_types.specs.Permitted.{is_named, is_supported, deadline_at, most_bytes}
use Rattle.grid_types.specs.Tables.{entry}
use Rattle.grid_types.specs.Calls.{Call, Reply}
use Rattle.grid_types.specs.HubAnswers.{Answer, hub, after_call, says, makes, moment, register_by}
use Rattle.trial_core.specs.Plain.{IsPlain}
use Rattle.trial_core.proofs.ListLemmas.{none-passes, has-kept}

by_cond : {X : Type 0} (P : X → Type 0) (b : Bool) (x y : X) → P x → P y → P (cond b x y)
by_cond P true x y h i = h
by_cond P false x y h i = i

pub none-plain : (choices : List (List Cap)) → IsPlain 0 choices []
none-plain choices = record { few = omega arith; small = λ n. omega arith; same = λ r h. absurd (cc); unbarred = λ r. refl }

pub more-plain : (most more : ℕ) (choices : List (List Cap)) (H : List Entry) → IsPlain most choices H → IsPlain (most + more) choices H
more-plain most more choices H p = record { few = (let few = p.few in omega arith); small = p.small; same = p.same; unbarred = p.unbarred }

-- a node more
registers : (H : List Entry) (k n most : ℕ) (reg : Registration) (at : Moment) (choices : List (List Cap)) → length reg.groups ≤ 1 → IsPlain most choices H →
    IsPlain (most + 1) choices (entry k (change.Registered n reg at) ∷ H)
registers H k n most reg at choices one p = record {
  few = (let longer : length (nodes H ++ n ∷ []) ≡ length (nodes H) + 1 = length-append (nodes H) (n ∷ []) in let few = p.few in omega arith);
  small = λ m. by_test m (nat_eq n m);
  same = p.same;
  unbarred = p.unbarred;
}
  where
    by_test : (m : ℕ) (b : Bool) → length (unwrap_or (option_map (λ (r : Registration). r.groups) (or_else (when b reg) (registration_of H m))) []) ≤ 1
    by_test m true = one
    by_test m false = p.small m

-- a request more
queues : (H : List Entry) (k r most : ℕ) (d at : Moment) (choices : List (List Cap)) → IsPlain most choices H → IsPlain most choices (entry k (change.Queued r choices d at) ∷ H)
queues H k r most d at choices p = record { few = p.few; small = p.small; same = λ q. by_test q (nat_eq r q); unbarred = p.unbarred }
  where
    by_test : (q : ℕ) (b : Bool) → is_waiting (place_by (is_taken H q) (outcome_of H q) (is_reserved H q) (is_some (or_else (when b (record { choices = choices; deadline = d.0; caller = k })) (asked_of H q)))) ≡ true →
        unwrap_or (option_map (λ (a : Asked). a.choices) (or_else (when b (record { choices = choices; deadline = d.0; caller = k })) (asked_of H q))) [] ≡ choices
    by_test q true h = refl
    by_test q false h = p.same q h

pub register-plain : (c : HubConfig) (H : List Entry) (k at most : ℕ) (reg : Registration) (choices : List (List Cap)) → length reg.groups ≤ 1 → IsPlain most choices H →
    IsPlain (most + 1) choices (after_call c H k (Call.register reg) at)
unfolding hub
register-plain c H k at most reg choices one p = by_name (find (is_named H reg.name) (nodes H))
  where
    stays : IsPlain (most + 1) choices H
    stays = more-plain most 1 choices H p

    by_name : (o : Option ℕ) → IsPlain (most + 1) choices (after H k (register_by c H reg (max at (clock H)) o).changes)
    by_name (Some n) = stays
    by_name None =
        by_cond (λ (a : Answer). IsPlain (most + 1) choices (after H k a.changes)) (nat_le 1_024 (length (listed H))) (says (Reply.nodes_full 1_024)) _ stays
        (by_cond (λ (a : Answer). IsPlain (most + 1) choices (after H k a.changes)) (nat_le (2 ^ 32 - 1) (next_node c H)) (says Reply.numbers_spent) (makes (change.Registered (next_node c H) reg (moment (max at (clock H)))) (Reply.registered (next_node c H))) stays
        (registers H k (next_node c H) most reg (moment (max at (clock H))) choices one p))

pub enqueue-plain : (c : HubConfig) (H : List Entry) (k at most : ℕ) (choices : List (List Cap)) → IsPlain most choices H → IsPlain most choices (after_call c H k (Call.enqueue choices) at)
unfolding hub
enqueue-plain c H k at most choices p =
    by_cond P (nat_le (2 ^ 64 - 1) (next_request c H)) (says Reply.numbers_spent) _ p
    (by_cond P (c.reject_unsupported && not (is_supported H choices)) (says Reply.unsupported) _ p
    (by_cond P (nat_le c.queue_requests (length (unsettled H)) || nat_lt most_bytes (unsettled_bytes H + request_bytes choices)) (says (Reply.queue_full (length (unsettled H)) (unsettled_bytes H))) (makes (change.Queued (next_request c H) choices (moment (deadline_at c choices (max at (clock H)))) (moment (max at (clock H)))) (Reply.queued (record { request = next_request c H; deadline = deadline_at c choices (max at (clock H)) }))) p
    (queues H k (next_request c H) most (moment (deadline_at c choices (max at (clock H)))) (moment (max at (clock H))) choices p)))
  where
    P : Answer → Type 0
    P a = IsPlain most choices (after H k a.changes)

-- a request that was cleared waits no more, and what waits waited before
settled-shut : (taken : Bool) (o : Option Outcome) (held asked : Bool) → is_waiting (place_by taken (Some (unwrap_or o outcome.Cleared)) held asked) ≡ false
settled-shut true o held asked = refl
settled-shut false o held asked = refl

record IsCleared (H G : List Entry) (rs : List ℕ) : Type 0 where
  requests_stay : requests G ≡ requests H
  waited : (q : ℕ) → is_waiting (place G q) ≡ true → is_waiting (place H q) ≡ true
  others : (q : ℕ) → is_waiting (place G q) ≡ true → list_any (nat_eq q) rs ≡ false

clears-one : (H : List Entry) (k r q : ℕ) (at : Moment) → is_waiting (place (entry k (change.Cleared r at) ∷ H) q) ≡ true → (is_waiting (place H q) ≡ true) × (nat_eq q r ≡ false)
clears-one H k r q at h = by_test (nat_eq r q) refl h
  where
    by_test : (b : Bool) → nat_eq r q ≡ b → is_waiting (place_by (is_taken H q) (earlier (outcome_of H q) (when b outcome.Cleared)) (is_reserved H q) (is_some (asked_of H q))) ≡ true → (is_waiting (place H q) ≡ true) × (nat_eq q r ≡ false)
    by_test true e i = let no = settled-shut (is_taken H q) (outcome_of H q) (is_reserved H q) (is_some (asked_of H q)) in absurd (cc)
    by_test false e i = (i, grind arith)

clears-all : (H : List Entry) (k : ℕ) (at : Moment) (rs : List ℕ) → IsCleared H (after H k (map (λ r. change.Cleared r at) rs)) rs
clears-all H k at [] = record { requests_stay = refl; waited = λ q h. h; others = λ q h. refl }
clears-all H k at (r ∷ rs) = by_rest (clears-all (entry k (change.Cleared r at) ∷ H) k at rs)
  where
    by_rest : IsCleared (entry k (change.Cleared r at) ∷ H) (after (entry k (change.Cleared r at) ∷ H) k (map (λ r. change.Cleared r at) rs)) rs →
        IsCleared H (after (entry k (change.Cleared r at) ∷ H) k (map (λ r. change.Cleared r at) rs)) (r ∷ rs)
    by_rest x = record {
      requests_stay = x.requests_stay;
      waited = λ q h. (clears-one H k r q at (x.waited q h)).0;
      others = λ q h. either (nat_eq q r) (list_any (nat_eq q) rs) (clears-one H k r q at (x.waited q h)).1 (x.others q h);
    }
      where
        either : (a b : Bool) → a ≡ false → b ≡ false → (a || b) ≡ false
        either true b e f = absurd (cc)
        either false b e f = f

pub clear-empties : (c : HubConfig) (H : List Entry) (k at : ℕ) → waiting_requests (after_call c H k Call.clear at) ≡ []
unfolding hub
clear-empties c H k at = by_all (clears-all H k (moment (max at (clock H))) (waiting_requests H))
  where
    by_all : IsCleared H (after H k (map (λ r. change.Cleared r (moment (max at (clock H)))) (waiting_requests H))) (waiting_requests H) →
        waiting_requests (after H k (map (λ r. change.Cleared r (moment (max at (clock H)))) (waiting_requests H))) ≡ []
    by_all x =
        let G = after H k (map (λ r. change.Cleared r (moment (max at (clock H)))) (waiting_requests H)) in
        none-passes (λ r. is_waiting (place G r)) (requests G) (λ q i. by_wait (is_waiting (place G q)) q refl (subst (λ (rs : List ℕ). list_any (nat_eq q) rs ≡ true) x.requests_stay i))
      where
        by_wait : (b : Bool) (q : ℕ) → is_waiting (place (after H k (map (λ r. change.Cleared r (moment (max at (clock H)))) (waiting_requests H))) q) ≡ b → list_any (nat_eq q) (requests H) ≡ true → b ≡ false
        by_wait false q e i = refl
        by_wait true q e i = let kept : list_any (nat_eq q) (waiting_requests H) ≡ true = has-kept (λ r. is_waiting (place H r)) q (requests H) i (x.waited q e) in let no = x.others q e in absurd (cc)
