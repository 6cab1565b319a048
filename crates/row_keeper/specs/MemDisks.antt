-- The disk of a keeper in memory: what its calls made of it.
use Rattle.std.specs.Prelude.{ℕ, Bool, true, false, List, [], ◌∷◌, ◌++◌, reverse}
use Rattle.row_keeper.specs.Disks.{Disk}
use Rattle.row_keeper.specs.declared.mem_keeper.KeepCall.{KeepCall}
use Rattle.row_keeper.specs.declared.mem_keeper.Planned.{Planned}

-- its calls and its plan, the oldest first
pub record MemView : Type 0 where
  pub calls : List KeepCall
  pub plan : List Planned
  pub faults : ℕ

-- the disk after a call: the rows from before it are past, and its row may stand behind them
abbrev pub after_keep : Disk → List ℕ → Bool → Disk
after_keep d row true = record { rows = d.rows ++ row ∷ []; past = d.rows ∷ d.past }
after_keep d row false = record { rows = d.rows; past = d.rows ∷ d.past }

-- the disk after the calls, the newest first
abbrev pub disk_of : List KeepCall → Disk
disk_of [] = record { rows = []; past = [] }
disk_of (call ∷ older) = after_keep (disk_of older) call.row call.written

abbrev pub disk_told : List KeepCall → Disk
disk_told calls = disk_of (reverse calls)
