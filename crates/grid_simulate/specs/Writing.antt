-- What is written of a simulation.
use Rattle.std.specs.Prelude.{◌≡◌, ℕ, List, Option}
use Rattle.grid_outside.specs.Told.{Gains, TookFront}
use Rattle.hub_core.specs.HubView.{HubView}
use Rattle.grid_simulate.specs.declared.summary.Summary.{Summary}
use Rattle.grid_simulate.specs.Simulates.{IsSimulated}
use Rattle.grid_simulate.specs.Texts.{summary_text}

-- there is a simulation of the number, with its summary
pub record HasSummary (number : ℕ) (summary : Summary) : Type 0 where
  pub hub : HubView
  pub at : ℕ
  pub simulated : IsSimulated number hub at summary

-- the text of the summary of the number's simulation
pub record IsText (number : ℕ) (text : List ℕ) : Type 0 where
  pub summary : Summary
  pub is : HasSummary number summary
  pub text_is : text ≡ summary_text number summary

-- the whole summary of the number's simulation was written
pub record WroteAll (number : ℕ) (old new : Option (List ℕ)) : Type 0 where
  pub summary : Summary
  pub is : HasSummary number summary
  pub gains : Gains old new (summary_text number summary)

-- a front of it was written, and not all of it
pub record BrokeOff (number : ℕ) (old new : Option (List ℕ)) : Type 0 where
  pub summary : Summary
  pub is : HasSummary number summary
  pub stops : TookFront old new (summary_text number summary)
