-- What was read, through an opening's steps.
use Rattle.std.proofs.Common.{◌≡◌, ℕ, ◌-◌, ◌^◌, ◌≤◌, List, ◌++◌, sym, ◌∙◌, subst}
use Rattle.grid_types.specs.declared.config.HubConfig.{HubConfig}
use Rattle.grid_types.specs.declared.entry.Entry.{Entry}
use Rattle.grid_journal.specs.Fits.{AllFit}
use Rattle.hub_core.specs.declared.hub.HubCore.{HubCore}
use Rattle.hub_core.specs.CoreStands as core_stands
use Rattle.journal_keeper.specs.declared.keeping.Keeping.{Keeping}
use Rattle.journal_keeper.specs.Keepings.{faults_of, kept_by}
use Rattle.grid_ledger.specs.declared.ledger.GridLedger.{GridLedger}
use Rattle.grid_ledger.specs.LedgerStands as of_ledger
use Rattle.grid_outside.specs.Counts.{Rose}
use Rattle.grid_opening.specs.declared.fault.OpeningFault.{OpeningFault}
use Rattle.grid_opening.specs.declared.fault.OpeningFault.TheVariants as fault
use Rattle.grid_opening.specs.declared.opening.Opening.{Opening}
use Rattle.grid_opening.specs.declared.finishing.Settled.{Settled}
use Rattle.grid_opening.specs.Openings.{Holds, Is, Keeps, Reason, SettlesTo}
use Rattle.grid_replay.specs.declared.replay.Replay.{Replay}
use Rattle.grid_replay.specs.Replays.{Shows}
use Rattle.hub_opening.specs.Handed.{Continues, HasRead, IsBefore, IsHanded, WhyNot}

-- an opening of what was read holds all of it
pub begun : (ledger : GridLedger) (listener : Replay) (keeping : Keeping) (most : ℕ) (o : Opening Keeping Replay) (H : List Entry) → Is ledger listener keeping most o → HasRead ledger listener keeping most H
    → Holds kept_by Shows o H
begun ledger listener keeping most o H is r = record {
  stands = subst (λ (z : GridLedger). of_ledger.Stands z H) (sym is.same_ledger) r.stands;
  was_heard = subst (λ (z : Replay). Shows z H) (sym is.same_listener) r.shows;
  callers = subst (λ (z : ℕ). AllFit (of_ledger.AtMost z) H) (sym is.same_most) r.callers;
  keeps = subst (λ (z : GridLedger). Keeps z.config H (kept_by o.keeper)) (sym is.same_ledger)
      (subst (λ (z : Keeping). Keeps ledger.config H (kept_by z)) (sym is.same_keeper) r.keeps);
}

-- what is handed over
pub handed : (o : Opening Keeping Replay) (s : Settled Keeping Replay) (H : List Entry) → SettlesTo kept_by Shows o s H → IsHanded s
handed o s H t = record { history = t.made ++ H; stands = t.hands_over.stands; shows = t.hands_over.was_heard; keeps = t.hands_over.keeps; callers = t.hands_over.callers }

-- a hub that was made of it continues the history
pub continues : (ledger : GridLedger) (o : Opening Keeping Replay) (s : Settled Keeping Replay) (H : List Entry) (core : HubCore) (now : Keeping) (first : ℕ) → SettlesTo kept_by Shows o s H → o.ledger.config ≡ ledger.config →
    ((G : List Entry) → of_ledger.Stands s.ledger G → core_stands.Stands core G) → now ≡ s.keeper → first ≡ s.first_caller → Continues ledger.config core now first H
continues ledger o s H core now first t same stands keeping number = record {
  made = t.made;
  stands = stands (t.made ++ H) t.hands_over.stands;
  keeps = subst (λ (d : HubConfig). Keeps d (t.made ++ H) (kept_by now)) (t.hands_over.same_config ∙ same)
      (subst (λ (k : Keeping). Keeps s.ledger.config (t.made ++ H) (kept_by k)) (sym keeping) t.hands_over.keeps);
  callers = subst (λ (n : ℕ). AllFit (IsBefore n) (t.made ++ H)) (sym number) t.hands_over.callers;
  no_slot = t.hands_over.no_slot;
  no_request = t.hands_over.no_request;
}

-- why there is none
pub why_not : (ledger : GridLedger) (listener : Replay) (keeping : Keeping) (most at : ℕ) (o : Opening Keeping Replay) (now : Keeping) (e : OpeningFault) → Is ledger listener keeping most o → Reason kept_by Shows faults_of o at now e → WhyNot ledger listener keeping most at now e
why_not ledger listener keeping most at o now fault.Unkept is why = subst (λ (k : Keeping). Rose (faults_of k) (faults_of now)) is.same_keeper why
why_not ledger listener keeping most at o now fault.Late is why = λ H r. why H (begun ledger listener keeping most o H is r)
why_not ledger listener keeping most at o now fault.Numbers is why = λ H r. subst (λ (n : ℕ). 2 ^ 64 - 1 ≤ n) is.same_most (why H (begun ledger listener keeping most o H is r))
why_not ledger listener keeping most at o now fault.Memory is why = tt
