-- What a worker's turns leave of its pass.
use Rattle.std.proofs.Common.{◌≡◌, ℕ, List, [], ◌∙◌, arith}
use Rattle.grid_outside.specs.Told.{Tick}
use Rattle.grid_outside.specs.declared.exchange.Ask.{Ask}
use Rattle.grid_outside.specs.Exchanges.{Came}
use Rattle.hub_cell.specs.declared.hub.SharedHub.{SharedHub}
use Rattle.hub_workers.specs.declared.ends.WorkerEnd.{WorkerEnd}
use Rattle.hub_workers.specs.declared.ends.WorkerEnd.TheVariants as ends
use Rattle.hub_workers.specs.Turns.{Worked, WorkerSpent, WorkerTurn, spent_after}
use Rattle.hub_workers.specs.World.{World}
use Rattle.hub_workers.specs.WorldLaws.{answered_same}

pub worked_ends : {N C : Type 0} (hub : SharedHub) (gives : N → List ℕ → Ask → Came → N → Type 0) (tells : C → Tick → ℕ → C → Type 0) (turns : ℕ) (old : World N C) (end : WorkerEnd) (new : World N C) →
    Worked hub gives tells WorkerTurn WorkerSpent turns old end new → old.view.ended ≡ [] → new.view.ended ≡ []
worked_ends hub gives tells turns old end new w none = (answered_same hub old.view new.view w.steps w.went.answered).1 ∙ none

pub spent_from : (before after : ℕ) (end : WorkerEnd) → after ≡ spent_after before end → before ≡ 0 → after ≡ spent_after 0 end
spent_from before after ends.TurnsDone is none = is ∙ none
spent_from before after (ends.Spent s) is none = omega (arith, is, none)
