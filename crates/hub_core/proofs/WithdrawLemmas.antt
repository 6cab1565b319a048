-- A core's answers where a request is given up.
use Rattle.std.proofs.Common.{◌≡◌, ℕ, Bool, true, false, max, List, ◌∷◌, refl, subst, sym, ap, ◌∙◌}
use Rattle.std.specs.Prelude.{Option, None, Some}
use Rattle.grid_types.specs.declared.config.HubConfig.{HubConfig}
use Rattle.grid_types.specs.declared.entry.Entry.{Entry}
use Rattle.grid_types.specs.declared.entry.Change.TheVariants as change
use Rattle.grid_types.specs.declared.entry.Outcome.{Outcome}
use Rattle.grid_types.specs.declared.names.Moment.{Moment}
use Rattle.grid_types.specs.History.{clock}
use Rattle.grid_types.specs.Legal.{legal}
use Rattle.grid_types.specs.Requests.{Place, unknown, waiting, held, settled, taken, place, is_waiting, is_settled, outcome_of}
use Rattle.grid_types.specs.Tokens.{Ticket, ticket_of}
use Rattle.grid_types.specs.Tables.{entry}
use Rattle.grid_types.specs.Calls.{Call, Reply}
use Rattle.grid_types.specs.HubAnswers.{hub, moment}
use Rattle.grid_types.specs.HistoryLaws.{Known, laws}
use Rattle.session_queue.specs.Table.{is_gone}
use Rattle.hub_core.specs.declared.hub.HubCore.{HubCore}
use Rattle.hub_core.specs.Answers.{IsExact}
use Rattle.hub_core.specs.Serves.{MayCall}
use Rattle.hub_core.specs.CoreStands.{Stands, CoreServes, CoreTells, Notes, is_known}
use Rattle.hub_core.proofs.NoteLemmas.{IsRaised, untouched}
use Rattle.hub_core.proofs.CoreLemmas.{core-serves, core-says, core-makes}
use Rattle.hub_core.proofs.CoreDispatchLemmas.{clock-raised}
use Rattle.hub_core.proofs.PollLemmas.{good-open}
use Rattle.hub_core.proofs.SettledLemmas.{ticket-known, settled-with, outcome-there, outcome-none}

-- one of which the table has no row does not wait
pub gone-waits : (p : Place) → is_gone p ≡ true → false ≡ is_waiting p
gone-waits unknown g = refl
gone-waits taken g = refl
gone-waits waiting g = absurd (cc)
gone-waits held g = refl
gone-waits (settled o) g = refl

withdraw-settled : (c : HubConfig) (H : List Entry) (k : ℕ) (t : Ticket) (at : ℕ) (o : Outcome) → outcome_of H t.request ≡ Some o →
    IsExact c H k (Call.withdraw t) at (Some (Reply.settled o)) (entry k (change.Taken t.request (moment (max at (clock H)))) ∷ H)
unfolding hub
withdraw-settled c H k t at o done = record { replies = rw done refl; goes_on = rw done refl }

withdraw-held : (c : HubConfig) (H : List Entry) (k : ℕ) (t : Ticket) (at : ℕ) → outcome_of H t.request ≡ None → is_waiting (place H t.request) ≡ false →
    IsExact c H k (Call.withdraw t) at (Some (Reply.not_yet (ticket_of H t.request))) H
unfolding hub
withdraw-held c H k t at open_yet other = record { replies = rw (open_yet, other) refl; goes_on = rw (open_yet, other) refl }

withdraw-waiting : (c : HubConfig) (H : List Entry) (k : ℕ) (t : Ticket) (at : ℕ) → outcome_of H t.request ≡ None → is_waiting (place H t.request) ≡ true →
    IsExact c H k (Call.withdraw t) at (Some Reply.withdrawn)
    (entry k (change.Taken t.request (moment (max at (clock H)))) ∷ (entry k (change.Cleared t.request (moment (max at (clock H)))) ∷ H))
unfolding hub
withdraw-waiting c H k t at open_yet waits = record { replies = rw (open_yet, waits) refl; goes_on = rw (open_yet, waits) refl }

module _ (proved : Known) (old : HubCore) (k at : ℕ) (t : Ticket) (now : Moment) (e : IsRaised old at now) (done : Bool)
    (tells : CoreTells old (λ H. is_known (place H t.request) ≡ true → done ≡ is_settled H t.request)) where
  known : (H : List Entry) → MayCall H k (Call.withdraw t) → is_known (place H t.request) ≡ true
  known H may = ticket-known H k t.request may.is_good

  outcome-is : (H : List Entry) → Stands old H → MayCall H k (Call.withdraw t) → done ≡ true → (o : Outcome) × ((outcome_of H t.request ≡ Some o) × (place H t.request ≡ settled o))
  outcome-is H s may d =
      let x = outcome-there (outcome_of H t.request) (sym (tells.of H s (known H may)) ∙ d) in
      (x.0, (x.1, settled-with H t.request x.0 (good-open H k t.request may.is_good) x.1))

  open-yet : (H : List Entry) → Stands old H → MayCall H k (Call.withdraw t) → done ≡ false → outcome_of H t.request ≡ None
  open-yet H s may d = outcome-none (outcome_of H t.request) (sym (tells.of H s (known H may)) ∙ d)

  now-is : (H : List Entry) → Stands old H → moment (max at (clock H)) ≡ now
  now-is H s = sym (ap moment (clock-raised old H at now s e))

  -- the outcome that is handed out is that of the request
  pub core-withdraw_settled : (new : HubCore) (given : Option Outcome) (o : Outcome) → done ≡ true → Notes old new k (change.Taken t.request now) →
      CoreTells old (λ H. (x : Outcome) → place H t.request ≡ settled x → given ≡ Some x) → given ≡ Some o → CoreServes old new k (Call.withdraw t) at (Some (Reply.settled o))
  core-withdraw_settled new given o d noted hands is = core-makes proved old new k _ at _ (change.Taken t.request now) noted
      (λ H s may.
      let x = outcome-is H s may d in
      subst (λ (z : Moment). IsExact old.config H k (Call.withdraw t) at (Some (Reply.settled o)) (entry k (change.Taken t.request z) ∷ H)) (now-is H s)
      (withdraw-settled old.config H k t at o (x.1.0 ∙ sym (hands.of H s x.0 x.1.1) ∙ is)))

  -- there is one, whatever history the core stands for
  pub core-withdraw_never : (new : HubCore) (given : Option Outcome) (reply : Reply) → done ≡ true → Notes old new k (change.Taken t.request now) →
      CoreTells old (λ H. (x : Outcome) → place H t.request ≡ settled x → given ≡ Some x) → given ≡ None → CoreServes old new k (Call.withdraw t) at (Some reply)
  core-withdraw_never new given reply d noted hands is = record {
    same_config = noted.same_config;
    serves = λ H s may. let x = outcome-is H s may d in let never : None ≡ Some x.0 = sym is ∙ hands.of H s x.0 x.1.1 in absurd (cc);
    stands = λ H s may. let x = outcome-is H s may d in let never : None ≡ Some x.0 = sym is ∙ hands.of H s x.0 x.1.1 in absurd (cc);
  }

  module _ (waits : Bool) (places : CoreTells old (λ H. waits ≡ is_waiting (place H t.request))) where
    pub core-withdraw_held : done ≡ false → waits ≡ false → CoreServes old old k (Call.withdraw t) at (Some (Reply.not_yet t))
    core-withdraw_held d w = core-says proved old old k _ at _ (untouched old)
        (λ H s may. subst (λ (z : Ticket). IsExact old.config H k (Call.withdraw t) at (Some (Reply.not_yet z)) H) (sym may.is_true)
        (withdraw-held old.config H k t at (open-yet H s may d) (sym (places.of H s) ∙ w)))

    pub core-withdrawn : (between new : HubCore) → done ≡ false → waits ≡ true → Notes old between k (change.Cleared t.request now) → Notes between new k (change.Taken t.request now) →
        CoreServes old new k (Call.withdraw t) at (Some Reply.withdrawn)
    core-withdrawn between new d w first second = core-serves proved old new k _ at _ (second.same_config ∙ first.same_config)
        (λ H s may. (
          entry k (change.Taken t.request now) ∷ (entry k (change.Cleared t.request now) ∷ H),
          (
            subst (λ (z : Moment). IsExact old.config H k (Call.withdraw t) at (Some Reply.withdrawn) (entry k (change.Taken t.request z) ∷ (entry k (change.Cleared t.request z) ∷ H))) (now-is H s)
                (withdraw-waiting old.config H k t at (open-yet H s may d) (sym (places.of H s) ∙ w)),
            λ l. second.after (entry k (change.Cleared t.request now) ∷ H)
                (first.after H s ((laws proved).legal-before old.config (entry k (change.Taken t.request now)) (entry k (change.Cleared t.request now) ∷ H) l))
                (subst (λ (c : HubConfig). legal c (entry k (change.Taken t.request now) ∷ (entry k (change.Cleared t.request now) ∷ H)) ≡ true) (sym first.same_config) l),
          ),
        ))
