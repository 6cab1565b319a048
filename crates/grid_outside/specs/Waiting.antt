-- Which calls of a line in memory find nothing there yet.
use Rattle.std.specs.Prelude.{◌≡◌, ℕ, Bool, nat_eq, List}
use Rattle.std.specs.List.{list_any}
use Rattle.grid_outside.specs.declared.waits.Waits.{Waits}
use Rattle.grid_outside.specs.Counts.{one_more}

-- the number of the next call is among those that find nothing there
abbrev pub is_waiting : Waits → Bool
is_waiting w = list_any (nat_eq w.calls) w.planned.items

-- these are to find nothing there, and no call was made yet
pub record BeginsToWait (planned : List ℕ) (w : Waits) : Type 0 where
  pub plan : w.planned.items ≡ planned
  pub calls : w.calls ≡ 0

-- a call was counted
pub record CountsOne (old new : Waits) : Type 0 where
  pub plan : new.planned ≡ old.planned
  pub calls : new.calls ≡ one_more old.calls
