-- From the first turn to the last, and what is told at the end.
use Rattle.std.proofs.Common.{◌≡◌, ◌≢◌, ℕ, ◌≤◌, Bool, true, false, List, [], ◌∷◌, ◌++◌, refl, sym, subst, ◌∙◌, arith}
use Rattle.std.specs.Prelude.{Option, Some, Result, Ok, Err, IfOk}
use Rattle.grid_types.specs.declared.config.HubConfig.{HubConfig}
use Rattle.grid_types.specs.declared.entry.Entry.{Entry}
use Rattle.grid_types.specs.Legal.{legal}
use Rattle.grid_types.specs.Calls.{Call}
use Rattle.grid_outside.specs.Told.{Tick}
use Rattle.grid_outside.specs.declared.exchange.Ask.{Ask}
use Rattle.grid_outside.specs.Exchanges.{Came}
use Rattle.hub_core.specs.HubView.{past}
use Rattle.node_client.specs.Held.{Token}
use Rattle.node_client.specs.Steps.{Step, Called, Spent, Exchanged, Paused}
use Rattle.conn_script.specs.SpentLooks.{FindsSpent}
use Rattle.conn_script.specs.Wanted.{to_read}
use Rattle.conn_script.specs.declared.wants.TheConstants.{LIMIT, PIECE}
use Rattle.conn_script.specs.declared.wants.ConnFault.{ConnFault}
use Rattle.conn_script.specs.declared.wants.ConnFault.TheVariants as faults
use Rattle.conn_script.specs.declared.wants.End.{End}
use Rattle.conn_script.specs.declared.wants.End.TheVariants as ends
use Rattle.conn_script.specs.declared.wants.Served.{Served}
use Rattle.hub_conn.specs.declared.talk.Talk.{Talk}
use Rattle.hub_conn.specs.SpentLaws.{SpentAtEnd, SpentLaws, is_hub_spent}
use Rattle.hub_conn.specs.Talk.{Cause, IsNew}
use Rattle.hub_links.specs.Links.{RoseFor}
use Rattle.local_driver.specs.World.{Answered}
use Rattle.local_driver.specs.Served.{HasServed, Outside, ServedLocally}
use Rattle.local_driver.specs.Serving.{EndedSo, HasAll, Serving, Turned}
use Rattle.local_driver.proofs.OnwardLemmas.{onward_none}

-- ---- this hub is never spent

pub not_answered : (c : HubConfig) (G H : List Entry) (steps : List Step) (call : Call) (at : ℕ) → Answered c G (steps ++ Spent call at ∷ []) H → ⊥
unfolding Answered
not_answered c G H [] call at a = a
not_answered c G H (Called k m reply ∷ steps) call at a = not_answered c a.0 H steps call at a.2
not_answered c G H (Spent k m ∷ steps) call at a = a
not_answered c G H (Exchanged address ask came ∷ steps) call at a = not_answered c G H steps call at a
not_answered c G H (Paused ms ∷ steps) call at a = not_answered c G H steps call at a

never_last : (c : HubConfig) (G H : List Entry) (spent : Bool) (steps : List Step) → FindsSpent spent steps → Answered c G steps H → spent ≡ true → ⊥
never_last c G H false steps finds a e = cc
never_last c G H true steps finds a e = not_answered c G H finds.before finds.call finds.at (subst (λ (s : List Step). Answered c G s H) finds.steps_are a)

module _ {N C : Type 0} (gives : N → List ℕ → Ask → Came → N → Type 0) (tells : C → Tick → ℕ → C → Type 0) (own : List ℕ) where
  -- it ended in this turn
  pub ended_so : (talk later : Talk) (first o p : Outside N C) (ended : Option (Result Served ConnFault)) (result : Result Served ConnFault) → ended ≡ Some result →
      Turned gives tells own talk o ended later p → Serving gives tells own first talk o → EndedSo gives tells own first result p
  ended_so talk later first o p ended result is turned serving = (subst (λ (e : Option (Result Served ConnFault)). Turned gives tells own talk o e later p) is turned) first serving

  pub serving_start : (talk : Talk) (o : Outside N C) → IsNew talk → Serving gives tells own o talk o
  serving_start talk o new = record {
    want = to_read PIECE;
    bytes = [];
    steps = [];
    written = [];
    stands = new.stands (Some own);
    onward = onward_none gives tells o;
    fresh = new.fresh;
    stays = new.stays;
    has = subst (λ (ts : List Token). HasAll (past o.world.hub) ts) (sym new.no_tokens) tt;
    early = λ e. absurd (never e);
    within = within;
    caused = subst (λ (c : Cause). RoseFor c o.link o.link) (sym new.blames) refl;
  }
    where
      never : false ≡ true → ⊥
      never e = cc

      within : 0 ≤ LIMIT
      within = omega arith

  told_unspent : (result : Result Served ConnFault) (o p : Outside N C) → SpentLaws → HasServed gives tells own o result p → IfOk result (λ served. served.end ≢ ends.HubSpent)
  told_unspent (Err fault) o p laws served = tt
  told_unspent (Ok done) o p laws served = by_law (laws (Some own) (Ok done) served.bytes served.steps served.written served.finished)
    where
      by_law : SpentAtEnd (Ok done) served.steps → done.end ≢ ends.HubSpent
      by_law x e = never_last o.world.hub.config (past o.world.hub) (past p.world.hub) x.spent served.steps x.finds served.onward.went.answered
          (x.told ∙ subst (λ (z : End). is_hub_spent z ≡ true) (sym e) refl)

  pub served_locally : (result : Result Served ConnFault) (o p : Outside N C) → SpentLaws → legal p.world.hub.config (past p.world.hub) ≡ true →
      EndedSo gives tells own o result p → ServedLocally gives tells own o result p
  served_locally result o p laws is_legal ended = record {
    served = ended.0;
    is_legal = is_legal;
    blames = ended.1;
    unspent = told_unspent result o p laws ended.0;
  }
