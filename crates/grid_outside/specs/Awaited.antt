-- What a line that is waited for tells.
use Rattle.std.specs.Prelude.{◌≡◌, ℕ}
use Rattle.grid_outside.specs.Told.{LinkView}

-- nothing is counted yet
pub record HasNone (read_faults write_faults ends : ℕ) : Type 0 where
  pub reads : read_faults ≡ 0
  pub writes : write_faults ≡ 0
  pub no_ends : ends ≡ 0

-- the bytes of the line, with counts of its own
abbrev pub awaited_view : LinkView → (read_faults write_faults ends : ℕ) → LinkView
awaited_view line read_faults write_faults ends = record {
  given = line.given;
  taken = line.taken;
  read_faults = read_faults;
  write_faults = write_faults;
  ends = ends;
}
