-- What a dispatch compares at most in a worked case, and what cores stand for after its calls.
use Rattle.std.proofs.Common.{◌≡◌, ℕ, ◌+◌, ◌*◌, ◌≤◌, Bool, true, ◌&&◌, List, [], length, refl, sym, ap, ◌∙◌, subst, arith}
use Rattle.std.proofs.Math.Nat.{mul-le-mul}
use Rattle.std.specs.Prelude.{Option, None, Some}
use Rattle.std.specs.List.{list_all}
use Rattle.grid_types.specs.declared.entry.Entry.{Entry}
use Rattle.grid_types.specs.declared.capabilities.Cap.{Cap}
use Rattle.grid_types.specs.declared.capabilities.Registration.{Registration}
use Rattle.grid_types.specs.History.{nodes as nodes_of, requests}
use Rattle.grid_types.specs.Nodes.{is_up}
use Rattle.grid_types.specs.Requests.{place, is_waiting, is_barred, choices_of, waiting_requests}
use Rattle.grid_types.specs.Permitted.{is_well_sized}
use Rattle.grid_types.specs.Calls.{Call, Reply}
use Rattle.grid_types.specs.HubAnswers.{after_call}
use Rattle.request_laws.specs.Kinds.{KindsDivide, barred_nodes, choices_eq, choices_in, is_alike, kinds}
use Rattle.slot_select.specs.Rows.{groups_of}
use Rattle.hub_walks.specs.First.{groups_up}
use Rattle.hub_core.specs.declared.hub.HubCore.{HubCore}
use Rattle.hub_core.specs.CoreStands.{Stands, CoreServes, CoreTells, later}
use Rattle.trial_core.specs.Plain.{IsPlain, IsPlainCore, KeepsPlain, NoneWaits, StandsForSome}
use Rattle.trial_core.proofs.ListLemmas.{first_of, all-pass, one-first, total-few}
use Rattle.trial_core.proofs.PlainLemmas.{none-plain, more-plain, register-plain, enqueue-plain, clear-empties}

-- requests that are for the same choices, with no start that failed, are of one kind
alike-waiting : (divide : KindsDivide) (most : ℕ) (choices : List (List Cap)) (H : List Entry) → IsPlain most choices H → (q r : ℕ) → is_waiting (place H q) ≡ true → is_waiting (place H r) ≡ true → is_alike H q r ≡ true
alike-waiting divide most choices H p q r h i =
    let own : choices_eq (choices_of H q) (choices_of H q) ≡ true = first_of (choices_eq (choices_of H q) (choices_of H q)) _ ((divide H).refl q) in
    let other : choices_of H q ≡ choices_of H r = p.same q h ∙ sym (p.same r i) in
    by_parts (choices_eq (choices_of H q) (choices_of H r)) (barred_nodes H q) (barred_nodes H r) (subst (λ (cs : List (List Cap)). choices_eq (choices_of H q) cs ≡ true) other own) (p.unbarred q) (p.unbarred r)
  where
    by_parts : (same : Bool) (a b : List ℕ) → same ≡ true → a ≡ [] → b ≡ [] → (same && (list_all (is_barred H r) a && list_all (is_barred H q) b)) ≡ true
    by_parts same a b e f g = rw (e, f, g) refl

kinds-few : (divide : KindsDivide) (most : ℕ) (choices : List (List Cap)) (H : List Entry) → IsPlain most choices H → choices_in H (kinds H) ≤ length choices
kinds-few divide most choices H p =
    one-first (is_alike H) (λ r. is_waiting (place H r)) (λ r. length (choices_of H r)) (length choices) (waiting_requests H) (alike-waiting divide most choices H p)
    (λ r h. let same : length (choices_of H r) ≡ length choices = ap (λ (cs : List (List Cap)). length cs) (p.same r h) in omega arith)
    (all-pass (λ r. is_waiting (place H r)) (requests H))

groups-few : (most : ℕ) (choices : List (List Cap)) (H : List Entry) → IsPlain most choices H → groups_up H (nodes_of H) ≤ most
groups-few most choices H p =
    let at_most = total-few (λ n. length (groups_of H n)) (is_up H) (nodes_of H) p.small in
    let few = p.few in
    omega arith

-- what a dispatch raises a counter by, where the core stands for a plain history, and where nothing waits
abbrev pub IsBounded : HubCore → ℕ → ℕ → Type 0
IsBounded core old new = CoreTells core (λ H. new ≤ old + choices_in H (kinds H) * groups_up H (nodes_of H))

pub plain-cost : (divide : KindsDivide) (core : HubCore) (old new most : ℕ) (choices : List (List Cap)) → IsBounded core old new → IsPlainCore most choices core → new ≤ old + length choices * most
plain-cost divide core old new most choices cost plain =
    let H = plain.0 in
    let bound : new ≤ old + choices_in H (kinds H) * groups_up H (nodes_of H) = cost.of H plain.1.0 in
    let product = mul-le-mul (kinds-few divide most choices H plain.1.1) (groups-few most choices H plain.1.1) in
    omega arith

pub none-cost : (core : HubCore) (old new : ℕ) → IsBounded core old new → NoneWaits core → new ≤ old
none-cost core old new cost none = by_list (waiting_requests none.0) none.1.1 (cost.of none.0 none.1.0)
  where
    by_list : (rs : List ℕ) → rs ≡ [] → new ≤ old + choices_in none.0 (kinds none.0) * groups_up none.0 (nodes_of none.0) → new ≤ old
    by_list rs e h = let empty : choices_in none.0 (kinds none.0) ≡ 0 = rw none.1.1 refl in subst (λ (n : ℕ). new ≤ old + n * groups_up none.0 (nodes_of none.0) → new ≤ old) (sym empty) (λ i. omega arith) h

module _ (old new : HubCore) (k at : ℕ) where
  goes-on : (call : Call) (reply : Option Reply) (H : List Entry) (P : List Entry → Type 0) → P H → P (after_call old.config H k call at) → P (later old.config H k call at reply)
  goes-on call None H P stays goes = stays
  goes-on call (Some r) H P stays goes = goes

  pub register-keeps : (reg : Registration) (reply : Option Reply) (choices : List (List Cap)) → CoreServes old new k (Call.register reg) at reply → is_well_sized reg ≡ true → length reg.groups ≤ 1 → KeepsPlain 1 choices old new
  register-keeps reg reply choices serves sized one = record {
    same_config = serves.same_config;
    plain = λ most before. (
      later old.config before.0 k (Call.register reg) at reply,
      (
        serves.stands before.0 before.1.0 (record { is_good = sized; is_true = tt }),
        goes-on (Call.register reg) reply before.0 (IsPlain (most + 1) choices)
            (record { few = (let few = before.1.1.few in omega arith); small = before.1.1.small; same = before.1.1.same; unbarred = before.1.1.unbarred })
            (register-plain old.config before.0 k at most reg choices one before.1.1),
      ),
    );
  }

  pub enqueue-keeps : (reply : Option Reply) (choices : List (List Cap)) → CoreServes old new k (Call.enqueue choices) at reply → 1 ≤ length choices → length choices ≤ 64 → KeepsPlain 0 choices old new
  enqueue-keeps reply choices serves some few = record {
    same_config = serves.same_config;
    plain = λ most before. (
      later old.config before.0 k (Call.enqueue choices) at reply,
      (
        serves.stands before.0 before.1.0 (record { is_good = grind arith; is_true = tt }),
        goes-on (Call.enqueue choices) reply before.0 (IsPlain (most + 0) choices) (more-plain most 0 choices _ before.1.1) (more-plain most 0 choices _ (enqueue-plain old.config before.0 k at most choices before.1.1)),
      ),
    );
  }

  pub dispatch-stands : (reply : Option Reply) → CoreServes old new k Call.dispatch at reply → StandsForSome old → StandsForSome new
  dispatch-stands reply serves before = (later old.config before.0 k Call.dispatch at reply, serves.stands before.0 before.1 (record { is_good = refl; is_true = tt }))

  pub clear-none : (reply : Reply) → CoreServes old new k Call.clear at (Some reply) → StandsForSome old → NoneWaits new
  clear-none reply serves before = (
    after_call old.config before.0 k Call.clear at,
    (serves.stands before.0 before.1 (record { is_good = refl; is_true = tt }), clear-empties old.config before.0 k at),
  )

-- cores that stand for the beginning
pub new-plain : (core : HubCore) (choices : List (List Cap)) → Stands core [] → IsPlainCore 0 choices core
new-plain core choices s = ([], (s, none-plain choices))

pub plain-some : (core : HubCore) (most : ℕ) (choices : List (List Cap)) → IsPlainCore most choices core → StandsForSome core
plain-some core most choices plain = (plain.0, plain.1.0)

pub keeps-then : (a b : ℕ) (choices : List (List Cap)) (old between new : HubCore) → KeepsPlain a choices old between → KeepsPlain b choices between new → KeepsPlain (a + b) choices old new
keeps-then a b choices old between new first second = record {
  same_config = second.same_config ∙ first.same_config;
  plain = λ most before. subst (λ (n : ℕ). IsPlainCore n choices new) (omega arith) (second.plain (most + a) (first.plain most before));
}

pub keeps-none : (choices : List (List Cap)) (core : HubCore) → KeepsPlain 0 choices core core
keeps-none choices core = record { same_config = refl; plain = λ most before. (before.0, (before.1.0, more-plain most 0 choices before.0 before.1.1)) }

-- four comparisons for one choice and four nodes
pub four-most : (old between new : ℕ) (choices : List (List Cap)) → length choices ≡ 1 → between ≡ old → new ≤ between + length choices * 4 → new ≤ old + 4
four-most old between new choices one same h = let product : length choices * 4 ≡ 4 = ap (λ (n : ℕ). n * 4) one in omega arith
