-- What is told of calls that were made one behind the other on a hub that keeps them.
use Rattle.std.specs.Prelude.{◌≡◌, ℕ, ◌≤◌, Option}
use Rattle.grid_types.specs.Calls.{Call, Reply}
use Rattle.grid_outside.specs.Counts.{Rose}
use Rattle.hub_core.specs.HubView.{past}
use Rattle.own_hub.specs.Own.{Own}
use Rattle.row_keeper.specs.Disks.{Disk}
use Rattle.grid_keeper.specs.Keeping.{IsOpen, KeptFails, KeptServes, WentAlong}
use Rattle.grid_keeper.specs.declared.kept_hub.KeptHub.{KeptHub}
use Rattle.grid_keeper.specs.declared.kept_hub.KeptFault.{KeptFault}
use Rattle.grid_keeper.specs.declared.kept_hub.KeptFault.TheVariants as faults

module _ {K : Type 0} (disk : K → Option Disk) where
  -- room was made, or there is none
  pub record MadeRoom (old new : KeptHub K) : Type 0 where
    pub same_config : new.hub.config ≡ old.hub.config
    pub same_past : past new.hub ≡ past old.hub
    pub same_keeper : new.keeper ≡ old.keeper
    pub is_open : IsOpen disk new

  -- Calls led from the one hub to the other: each was answered as by the hub of one thread, and was kept before its answer
  -- was handed on and the next one was made.
  pub data Runs : KeptHub K → KeptHub K → Type 0 where
    no_call : (hub : KeptHub K) → Runs hub hub
    room_made : (old mid new : KeptHub K) → Runs old mid → MadeRoom mid new → Runs old new
    call_kept : (old mid new : KeptHub K) (call : Call) (at : ℕ) (reply : Option Reply) →
        Runs old mid → KeptServes disk mid call at reply new → Runs old new

  -- what calls leave of the journal and of what was kept is so of calls one behind the other
  abbrev pub WaysJoin : Type 0
  WaysJoin = (old mid new : KeptHub K) → WentAlong disk mid new → WentAlong disk old mid → WentAlong disk old new

  -- And the last was not: its answer was not handed on, and the hub is closed.
  pub record Broke (old new : KeptHub K) : Type 0 where
    pub last : KeptHub K
    pub runs : Runs old last
    pub call : Call
    pub at : ℕ
    pub fails : KeptFails disk last call at new

  module _ (count : K → ℕ) where
    -- all that is told of calls so far
    pub record Ran (old new : KeptHub K) : Type 0 where
      pub runs : Runs old new
      pub went : WentAlong disk old new
      pub later : count old.keeper ≤ count new.keeper

    -- and of calls the last of which met a fault
    pub record Ended (old : KeptHub K) (fault : KeptFault) (new : KeptHub K) : Type 0 where
      pub broke : Broke old new
      pub went : WentAlong disk old new
      pub later : count old.keeper ≤ count new.keeper
      pub cause : fault ≡ faults.Keeper → Rose (count old.keeper) (count new.keeper)

    -- what is told of it to a driver
    abbrev pub kept_own : Own (KeptHub K) KeptFault
    kept_own = record {
      shown = λ kept. kept.hub;
      IsOpen = λ kept. IsOpen disk kept;
      Along = λ first kept. Ran first kept;
      Stopped = λ first fault kept. Ended first fault kept;
    }
