-- What a line tells of a read and of a write that never wait.
use Rattle.std.specs.Prelude.{◌≡◌, ℕ, ◌<◌, ◌≤◌, Bool, true, false, List, length, take}
use Rattle.grid_outside.specs.Counts.{Rose}
use Rattle.grid_outside.specs.Told.{Gains, LinkView}
use Rattle.grid_outside.specs.declared.line.Reading.{Reading}
use Rattle.grid_outside.specs.declared.line.Reading.TheVariants as reading
use Rattle.grid_outside.specs.declared.line.Writing.{Writing}
use Rattle.grid_outside.specs.declared.line.Writing.TheVariants as writing

-- nothing of what was written has changed, and no count fell
pub record OnlyReads (old new : LinkView) : Type 0 where
  pub taken : new.taken ≡ old.taken
  pub write_faults : new.write_faults ≡ old.write_faults
  pub read_faults : old.read_faults ≤ new.read_faults
  pub ends : old.ends ≤ new.ends

-- nothing of what was read has changed, and no count fell
pub record OnlyWrites (old new : LinkView) : Type 0 where
  pub given : new.given ≡ old.given
  pub read_faults : new.read_faults ≡ old.read_faults
  pub ends : new.ends ≡ old.ends
  pub write_faults : old.write_faults ≤ new.write_faults

-- Of a read into so much room, with these bytes there behind it. The end of input and a failure come only where their count
-- rose, and give no bytes; a read that finds nothing there changes nothing.
abbrev pub ReadsSo : Reading → ℕ → List ℕ → LinkView → LinkView → Type 0
ReadsSo (reading.Bytes n) room into old new =
    (n ≤ room) × (0 < room → 0 < n) × OnlyReads old new × Gains old.given new.given (take n into)
    × (new.ends ≡ old.ends)
ReadsSo reading.End room into old new =
    OnlyReads old new × (new.given ≡ old.given) × Rose old.ends new.ends
ReadsSo reading.NotNow room into old new = new ≡ old
ReadsSo reading.Failed room into old new =
    OnlyReads old new × (new.given ≡ old.given) × (new.ends ≡ old.ends)
    × Rose old.read_faults new.read_faults

-- of a write of these bytes
abbrev pub WritesSo : Writing → List ℕ → LinkView → LinkView → Type 0
WritesSo (writing.Bytes n) from old new =
    (n ≤ length from) × (0 < length from → 0 < n) × OnlyWrites old new
    × Gains old.taken new.taken (take n from)
WritesSo writing.NotNow from old new = new ≡ old
WritesSo writing.Failed from old new =
    OnlyWrites old new × (new.taken ≡ old.taken) × Rose old.write_faults new.write_faults

-- Of a look whether the other side is gone: only where it is a failed read is counted, and no byte is taken.
abbrev pub LooksSo : Bool → LinkView → LinkView → Type 0
LooksSo true old new =
    OnlyReads old new × (new.given ≡ old.given) × (new.ends ≡ old.ends)
    × Rose old.read_faults new.read_faults
LooksSo false old new = new ≡ old
