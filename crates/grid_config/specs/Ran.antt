-- What a run by a configuration is, whatever program it runs.
use Rattle.std.specs.Prelude.{◌≡◌, ◌⊎◌, ℕ, List, Result, Ok, Err}
use Rattle.grid_config.specs.Configured.{Says}
use Rattle.grid_config.specs.Rows.{Row}
use Rattle.grid_config.specs.declared.fault.ConfigFault.{ConfigFault}
use Rattle.grid_config.specs.declared.fault.ConfigFault.TheVariants as fault
use Rattle.grid_outside.specs.Counts.{Rose}
use Rattle.grid_outside.specs.Told.{SourceView}
use Rattle.grid_config.specs.Input.{HasRead}

-- the status of a text that says no words
abbrev pub fault_status : ConfigFault → ℕ
fault_status fault.Memory = 5
fault_status fault.TooLong = 9
fault_status fault.NotToml = 9
fault_status (fault.UnknownKey section key) = 9
fault_status (fault.WrongValue section key) = 9

-- Where the text says words, the program ended as it may for these. For a fault the status is the
-- fault's, and nothing but the input was touched.
abbrev pub Ends : (List (List ℕ) → Type 0) → ℕ → Type 0 →
    Result (List (List ℕ)) ConfigFault → Type 0
Ends MayEnd status Untouched (Ok words) = MayEnd words
Ends MayEnd status Untouched (Err f) = (status ≡ fault_status f) × Untouched

-- a text was read, and the program ended by what it says by the table of keys
pub record RanBy (rows : List Row) (old new : SourceView)
    (Ended : Result (List (List ℕ)) ConfigFault → Type 0) : Type 0 where
  pub bytes : List ℕ
  pub said : Result (List (List ℕ)) ConfigFault
  pub read : HasRead bytes old new
  pub says : Says rows bytes said
  pub ended : Ended said

-- or none was read: a read failed, or there was no memory; and nothing but the input was touched
abbrev pub Ran : List Row → (List (List ℕ) → Type 0) → ℕ → Type 0 → SourceView → SourceView → Type 0
Ran rows MayEnd status Untouched old new =
    RanBy rows old new (Ends MayEnd status Untouched)
    ⊎ (((status ≡ 10) × Rose old.faults new.faults × Untouched)
    ⊎ ((status ≡ 5) × Untouched))
