-- How the making of a simulation's journal ends.
use Rattle.std.specs.Prelude.{◌≡◌, ℕ}
use Rattle.hub_core.specs.HubView.{HubView, past}
use Rattle.grid_simulate.specs.declared.summary.Summary.{Summary}
use Rattle.grid_simulate.specs.Simulates.{IsSimulated}
use Rattle.grid_outside.specs.Told.{SinkView}
use Rattle.grid_check.specs.Writes.{WriteEnds}

-- How the making of the journal of a number's simulation ends: its whole journal is written, in one of these ways; or there was no
-- memory for the simulation, and nothing was written.
pub data MakeEnds (number : ℕ) (old new : SinkView) (status : ℕ) : Type 0 where
  simulated : (hub : HubView) (at : ℕ) (summary : Summary) → IsSimulated number hub at summary → WriteEnds hub.config (past hub) old new status →
      MakeEnds number old new status
  no_simulation : status ≡ 7 → new.taken ≡ old.taken → MakeEnds number old new status
