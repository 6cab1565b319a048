-- What a link gave and took before a hub is chosen, or where none is.
use Rattle.std.specs.Prelude.{◌≡◌, ℕ, ◌<◌, ◌≤◌, List, ◌++◌, length}
use Rattle.grid_outside.specs.Counts.{Rose}
use Rattle.grid_outside.specs.Told.{Gains, LinkView}

-- it gave just these bytes, and took none
pub record Gave (old : LinkView) (bytes : List ℕ) (new : LinkView) : Type 0 where
  pub given : Gains old.given new.given bytes
  pub taken : new.taken ≡ old.taken
  pub read_faults : old.read_faults ≤ new.read_faults
  pub write_faults : new.write_faults ≡ old.write_faults
  pub ends : old.ends ≤ new.ends

-- it took just these bytes, and gave none
pub record Took (old : LinkView) (written : List ℕ) (new : LinkView) : Type 0 where
  pub given : new.given ≡ old.given
  pub taken : Gains old.taken new.taken written
  pub read_faults : new.read_faults ≡ old.read_faults
  pub write_faults : old.write_faults ≤ new.write_faults
  pub ends : new.ends ≡ old.ends

-- a write failed, and a front of the bytes was taken, not all
pub record TookFront (old : LinkView) (bytes : List ℕ) (new : LinkView) : Type 0 where
  pub front : List ℕ
  pub unwritten : List ℕ
  pub are : bytes ≡ front ++ unwritten
  pub some : 0 < length unwritten
  pub took : Took old front new
  pub rose : Rose old.write_faults new.write_faults
