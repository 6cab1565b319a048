-- Turns that are made step by step: those that are over, and the one that is under way.
use Rattle.std.specs.Prelude.{◌≡◌, ◌⊎◌, ℕ, ◌<◌, List, [], ◌++◌}
use Rattle.grid_types.specs.declared.spent.Spent.{Spent}
use Rattle.grid_outside.specs.Told.{Tick, later_by}
use Rattle.grid_outside.specs.declared.exchange.Ask.{Ask}
use Rattle.grid_outside.specs.Exchanges.{Came}
use Rattle.hub_cell.specs.declared.hub.SharedHub.{SharedHub}
use Rattle.node_client.specs.Steps.{Step}
use Rattle.hub_workers.specs.Turns.{Turns}
use Rattle.hub_workers.specs.World.{Knowledge, Went, World}
use Rattle.hub_workers.specs.declared.acts.WorkAct.{WorkAct}
use Rattle.hub_workers.specs.declared.acts.WorkAct.TheVariants as acts

module _ {N C : Type 0} (hub : SharedHub) (gives : N → List ℕ → Ask → Came → N → Type 0) (tells : C → Tick → ℕ → C → Type 0)
    (IsTurn : List Step → Type 0) where
  -- So many whole turns were made, one behind the other, and these steps of the next; nothing else was done.
  pub record Amid (IsOwn : Knowledge → List Step → Type 0) (first now : World N C) : Type 0 where
    pub turns : ℕ
    pub done : List Step
    pub own : List Step
    pub turned : Turns IsTurn turns done
    pub so : IsOwn now.view own
    pub went : Went hub gives tells first (done ++ own) now

  -- After these steps of a turn more were made. By them it has gone on, or is over.
  pub record GoesBy (After : Knowledge → List Step → Type 0) (Did : List Step → Type 0) (own : List Step)
      (old new : World N C) : Type 0 where
    pub more : List Step
    pub went : Went hub gives tells old more new
    pub reaches : After new.view (own ++ more) ⊎ (IsTurn (own ++ more) × After new.view [])
    pub did : Did more

  -- the same, whatever steps of the turn came before
  abbrev pub Goes : (Before After : Knowledge → List Step → Type 0) → (Did : List Step → Type 0) → World N C → World N C → Type 0
  Goes Before After Did old new = (own : List Step) → Before old.view own → GoesBy After Did own old new

-- What an answer says of the steps that were made from one stage to another. Who awaits a node has asked it, and who pauses does so
-- until that is over; neither makes a step.
module _ {Stage : Type 0} (Moves : List Step → Stage → Stage → Type 0) (IsAsking : Stage → Type 0) (pausing : Stage)
    (over : Spent → Stage) (pause : ℕ) where
  abbrev pub Says : WorkAct → (moment now : ℕ) → Stage → Stage → List Step → Type 0
  Says acts.GoesOn moment now before after more = Moves more before after
  Says acts.AwaitsNode moment now before after more = IsAsking before × (after ≡ before) × (more ≡ [])
  Says (acts.Until due) moment now before after more =
      (before ≡ pausing) × (after ≡ pausing) × (more ≡ []) × (due ≡ later_by moment pause) × (now < due)
  Says (acts.Over s) moment now before after more = after ≡ over s
