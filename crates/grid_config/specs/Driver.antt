-- What the status of the program that puts a driver behind a hub stands for.
use Rattle.std.specs.Prelude.{◌≡◌, ◌⊎◌, ℕ, List, Option}
use Rattle.grid_attach.specs.Looks.{Attached}
use Rattle.grid_outside.specs.Told.{ClockView, Tick}
use Rattle.grid_outside.specs.declared.exchange.Ask.{Ask}
use Rattle.grid_outside.specs.Exchanges.{Came}
use Rattle.server_words.specs.AttachOptions.{FitsAttach, attach_said}
use Rattle.server_words.specs.declared.attach.AttachFault.{AttachFault}
use Rattle.server_words.specs.declared.attach.AttachFault.TheVariants as fault

-- So many looks at the driver of the words were made, or fewer where one lost the node and that ends them,
-- with what its hub was told and the waits behind them.
pub record HasLooked {N C : Type 0} (gives : N → List ℕ → Ask → Came → N → Type 0) (tells : C → Tick → ℕ → C → Type 0)
    (shows : C → ClockView) (words : List (List ℕ)) (looks : ℕ) (old : N) (before : C) (new : N) (after : C) : Type 0 where
  pub number : Option ℕ
  pub made : Attached gives tells shows (attach_said words) looks old before number new after

-- how the program may end for these words, by its own contract
pub record MayAttach (words : List (List ℕ)) (status : ℕ) (Looked Unasked : Type 0) : Type 0 where
  pub fits : status ≡ 0 → FitsAttach words
  pub looked : status ≡ 0 → Looked
  pub misfit : status ≡ 2 → ¬ (FitsAttach words)
  pub unasked : status ≡ 2 → Unasked
  pub statuses : (status ≡ 0) ⊎ ((status ≡ 2) ⊎ (status ≡ 5))

-- the status of words that it does not take
abbrev pub refusal_status : AttachFault → ℕ
refusal_status (fault.Words e) = 2
refusal_status fault.Hub = 2
refusal_status fault.Driver = 2
refusal_status fault.Name = 2
refusal_status fault.TooLong = 2
refusal_status fault.Capability = 2
refusal_status fault.Memory = 5
