-- Which calls of an object in memory are to fail, and what has come of that so far.
use Rattle.std.specs.Prelude.{◌≡◌, ℕ, Bool, nat_eq, is_err, List, Result}
use Rattle.std.specs.List.{list_any}
use Rattle.grid_outside.specs.declared.memory.Failing.{Failing}
use Rattle.grid_outside.specs.Counts.{one_more, more_if}

-- the number of the next call is among those that are to fail
abbrev pub is_due : Failing → Bool
is_due f = list_any (nat_eq f.calls) f.planned.items

-- these are to fail, and none was made yet
pub record Begins (planned : List ℕ) (f : Failing) : Type 0 where
  pub plan : f.planned.items ≡ planned
  pub calls : f.calls ≡ 0
  pub faults : f.faults ≡ 0

-- a call is counted, and as a fault where it failed
pub record CountsCall {T E : Type 0} (old new : Failing) (result : Result T E) : Type 0 where
  pub plan : new.planned.items ≡ old.planned.items
  pub calls : new.calls ≡ one_more old.calls
  pub faults : new.faults ≡ more_if (is_err result) old.faults
