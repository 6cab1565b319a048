-- From what a teller promises to what a call of the core tells.
use Rattle.std.proofs.Common.{◌≡◌, ℕ, max, Bool, true, false, List, refl, ap, subst, inl, inr, arith, Result}
use Rattle.std.specs.Prelude.{Option, None, Some, IfSome, is_some, option_map}
use Rattle.grid_types.specs.declared.config.HubConfig.{HubConfig}
use Rattle.grid_types.specs.declared.entry.Entry.{Entry}
use Rattle.grid_types.specs.declared.entry.Outcome.{Outcome}
use Rattle.grid_types.specs.declared.names.Moment.{Moment}
use Rattle.grid_types.specs.History.{clock}
use Rattle.grid_types.specs.HubAnswers.{hub, moment}
use Rattle.grid_types.specs.Permitted.{is_caller, is_asker}
use Rattle.grid_types.specs.Requests.{Asked, place, place_by, is_taken, is_reserved, outcome_of, asked_of}
use Rattle.grid_types.specs.Tokens.{Ticket, is_good_ticket}
use Rattle.grid_types.specs.Calls.{Call, Reply}
use Rattle.grid_journal.specs.declared.piece.PieceFault.{PieceFault}
use Rattle.hub_core.specs.declared.hub.HubCore.{HubCore}
use Rattle.hub_core.specs.Answers.{Answers}
use Rattle.hub_core.specs.CoreStands.{Stands, CoreServes, CoreTells, is_known}
use Rattle.hub_core.specs.Serves.{MayCall}
use Rattle.hub_tellers.specs.Tells.{Answered, Tells}
use Rattle.hub_tellers.specs.Records.{TellsCall}

pub replied : (c : HubConfig) (H later : List Entry) (k : ℕ) (call : Call) (at : ℕ) (reply : Option Reply) → Answers c H k call at reply later → IfSome reply (λ r. r ≡ (hub c H k call at).reply)
replied c H later k call at None answers = tt
replied c H later k call at (Some r) (inl exact) = let e = exact.replies in cc
replied c H later k call at (Some r) (inr lack) = let e = lack.silent in absurd (cc)

module _ (old new : HubCore) (k at : ℕ) (call : Call) (reply : Option Reply) (now : Moment) (serves : CoreServes old new k call at reply) (raised : CoreTells old (λ H. now.0 ≡ max at (clock H))) where
  pub answered : (H : List Entry) → Stands old H → MayCall H k call → Answered old.config H k call at reply now
  answered H s may = record {
    moment_is = ap (λ (m : ℕ). moment m) (raised.of H s);
    replies = replied old.config H _ k call at reply (serves.serves H s may).answers;
  }

  pub tells_call : (known : HubConfig → List Entry → ℕ → Type 0) (before after : List ℕ) (told : Result (Unit {0}) PieceFault) → ((H : List Entry) → Stands old H → MayCall H k call → known old.config H at) →
      Tells known k call reply now before after told → TellsCall old k call at reply before after told
  tells_call known before after told is tells = record { of = λ H s may. tells old.config H at (is H s may) (answered H s may) }

-- the request of a good ticket was queued
known-asked : (v : Bool) (o : Option Outcome) (u w : Bool) → w ≡ true → is_known (place_by v o u w) ≡ true
known-asked true o u w h = refl
known-asked false (Some o) u w h = refl
known-asked false None true w h = refl
known-asked false None false true h = refl
known-asked false None false false h = absurd (cc)

asker-asked : (k : ℕ) (o : Option Asked) → is_caller k (option_map (λ a. a.caller) o) ≡ true → is_some o ≡ true
asker-asked k None h = h
asker-asked k (Some a) h = refl

pub ticket-known : (H : List Entry) (k r : ℕ) → is_good_ticket H k r ≡ true → is_known (place H r) ≡ true
ticket-known H k r good =
    let asks : is_asker H k r ≡ true = grind arith in
    known-asked (is_taken H r) (outcome_of H r) (is_reserved H r) (is_some (asked_of H r)) (asker-asked k (asked_of H r) asks)

-- the same of the request by its number
pub known_here : (k : ℕ) (t : Ticket) (H : List Entry) → MayCall H k (Call.poll t) → {r : ℕ} → t.request ≡ r → is_known (place H r) ≡ true
known_here k t H may {r = r} same = subst (λ (n : ℕ). is_known (place H n) ≡ true) same (ticket-known H k t.request may.is_good)
