-- What is promised of a connection over a hub that keeps its calls.
use Rattle.std.specs.Prelude.{ℕ, Option, None, Some, Result, Ok, Err}
use Rattle.conn_script.specs.declared.wants.ConnFault.{ConnFault}
use Rattle.conn_script.specs.declared.wants.Served.{Served}
use Rattle.row_keeper.specs.Disks.{Disk}
use Rattle.grid_keeper.specs.declared.kept_hub.KeptHub.{KeptHub}
use Rattle.grid_keeper.specs.declared.kept_hub.KeptFault.{KeptFault}
use Rattle.grid_keeper.specs.declared.kept_hub.KeptFault.TheVariants as faults
use Rattle.grid_keeper.specs.Keeping.{IsOpen}
use Rattle.grid_keeper.specs.Runs.{Ended, Ran}
use Rattle.kept_play.specs.declared.serving.KeptEnd.{KeptEnd}
use Rattle.kept_play.specs.declared.serving.KeptEnd.TheVariants as ends

abbrev pub end_of : KeptFault → KeptEnd
end_of faults.Keeper = ends.Keeper
end_of faults.Memory = ends.Memory

abbrev pub told_of : Result Served ConnFault → Result Served KeptEnd
told_of (Ok served) = Ok served
told_of (Err fault) = Err (ends.Conn fault)

-- how the connection ended, where it came to its end
abbrev pub conn_of : Result Served KeptEnd → Option (Result Served ConnFault)
conn_of (Ok served) = Some (Ok served)
conn_of (Err (ends.Conn fault)) = Some (Err fault)
conn_of (Err ends.Keeper) = None
conn_of (Err ends.Memory) = None

module _ {K : Type 0} (disk : K → Option Disk) (count : K → ℕ) where
  -- the hub is open, and each of its calls was kept before its answer was handed on
  pub record KeptAll (old new : KeptHub K) : Type 0 where
    pub is_open : IsOpen disk new
    pub ran : Ran disk count old new

  -- or the last call met this fault, and the hub is closed
  abbrev pub KeptTo : KeptHub K → Result Served KeptEnd → KeptHub K → Type 0
  KeptTo old (Ok served) new = KeptAll old new
  KeptTo old (Err (ends.Conn fault)) new = KeptAll old new
  KeptTo old (Err ends.Keeper) new = Ended disk count old faults.Keeper new
  KeptTo old (Err ends.Memory) new = Ended disk count old faults.Memory new
