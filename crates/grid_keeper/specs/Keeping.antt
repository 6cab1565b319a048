-- What a call of a hub that keeps its calls promises.
use Rattle.std.specs.Prelude.{◌≡◌, ◌⊎◌, ℕ, ◌≤◌, ◌<◌, true, false, List, ◌++◌, length, Option, None, Some, IfSome, Result, Ok, Err, OnOk, OnErr, IsOk}
use Rattle.grid_types.specs.declared.config.HubConfig.{HubConfig}
use Rattle.grid_types.specs.declared.entry.Entry.{Entry}
use Rattle.grid_types.specs.History.{BeginsWith}
use Rattle.grid_types.specs.Calls.{Call, Reply}
use Rattle.hub_core.specs.HubView.{HubView, past, ServesLocally}
use Rattle.row_keeper.specs.Disks.{Disk, Each, KeepsTold, HasKept}
use Rattle.grid_keeper.specs.Replays.{IsImage}
use Rattle.grid_keeper.specs.declared.kept_hub.KeptHub.{KeptHub}
use Rattle.row_keeper.specs.declared.keeper.KeepFault.{KeepFault}
use Rattle.row_keeper.specs.declared.keeper.KeepFault.TheVariants as keep
use Rattle.grid_keeper.specs.declared.kept_hub.KeptFault.{KeptFault}
use Rattle.grid_keeper.specs.declared.kept_hub.KeptFault.TheVariants as fault

-- the rows are those of the hub's journal, where they are told
abbrev pub StandsOn : HubView → Option Disk → Type 0
StandsOn hub disk = IfSome disk (λ d. IsImage hub.config d.rows (past hub))

-- an image is the rows of the history before a call, or of that after it
abbrev pub IsOneOf : HubConfig → List Entry → List Entry → List (List ℕ) → Type 0
IsOneOf c before after image = IsImage c image before ⊎ IsImage c image after

-- At each moment of a call a crash leaves the rows of the history before it, or of that after it.
pub record DiskWent (c : HubConfig) (before after : List Entry) (old new : Disk) : Type 0 where
  pub added : List (List (List ℕ))
  pub goes_on : new.past ≡ added ++ old.past
  pub images : Each (IsOneOf c before after) added
  pub rows : IsOneOf c before after new.rows

abbrev pub WentTold : HubConfig → List Entry → List Entry → Option Disk → Option Disk → Type 0
WentTold c before after None new = new ≡ None
WentTold c before after (Some old) new = (d : Disk) × (new ≡ Some d) × DiskWent c before after old d

-- an image is the rows of a history that the journal had on its way from one to the other
abbrev pub IsOnTheWay : HubConfig → List Entry → List Entry → List (List ℕ) → Type 0
IsOnTheWay c before after image =
    (H : List Entry) × BeginsWith after H × BeginsWith H before × IsImage c image H

-- At each moment of several calls a crash leaves the rows of a front of the journal, which the calls before them are in.
pub record DiskWentAlong (c : HubConfig) (before after : List Entry) (old new : Disk) : Type 0 where
  pub added : List (List (List ℕ))
  pub goes_on : new.past ≡ added ++ old.past
  pub images : Each (IsOnTheWay c before after) added
  pub rows : IsOnTheWay c before after new.rows

abbrev pub AlongTold : HubConfig → List Entry → List Entry → Option Disk → Option Disk → Type 0
AlongTold c before after None new = new ≡ None
AlongTold c before after (Some old) new =
    (d : Disk) × (new ≡ Some d) × DiskWentAlong c before after old d

-- what a keeper's fault is to the hub
abbrev pub kept_fault : KeepFault → KeptFault
kept_fault keep.Failed = fault.Keeper
kept_fault keep.Memory = fault.Memory

-- the replies of the calls whose answers are no enums
abbrev pub cleared_reply : ℕ → Option Reply
cleared_reply count = Some (Reply.cleared count)

abbrev pub freed_reply : Unit {0} → Option Reply
freed_reply answer = Some Reply.is_freed

module _ {K : Type 0} (disk : K → Option Disk) where
  -- it takes calls, and its rows are those of its journal
  pub record IsOpen (kept : KeptHub K) : Type 0 where
    pub open_now : kept.is_open ≡ true
    pub stands : StandsOn kept.hub (disk kept.keeper)

  -- The call was answered so and, where it made entries, kept before that.
  pub record KeptServes (old : KeptHub K) (call : Call) (at : ℕ) (reply : Option Reply) (new : KeptHub K) : Type 0 where
    pub serves : ServesLocally old.hub call at reply new.hub
    pub stays_open : IsOpen new
    pub disk_went : WentTold old.hub.config (past old.hub) (past new.hub) (disk old.keeper) (disk new.keeper)

  -- Out of memory, or the keeper failed: the hub is closed. It was not called, or its answer is not handed on.
  pub record KeptFails (old : KeptHub K) (call : Call) (at : ℕ) (new : KeptHub K) : Type 0 where
    pub closed : new.is_open ≡ false
    pub same_config : new.hub.config ≡ old.hub.config
    pub hub_went : (past new.hub ≡ past old.hub) ⊎ ((reply : Option Reply) × ServesLocally old.hub call at reply new.hub)
    pub disk_went : WentTold old.hub.config (past old.hub) (past new.hub) (disk old.keeper) (disk new.keeper)

  -- what a call with this answer promises
  abbrev pub KeptCall : {A : Type 0} → KeptHub K → Call → ℕ → (A → Option Reply) → Result A KeptFault → KeptHub K → Type 0
  KeptCall old call at reply_of (Ok answer) new = KeptServes old call at (reply_of answer) new
  KeptCall old call at reply_of (Err fault) new = KeptFails old call at new

  -- Several calls: the journal has only grown, and so has what was kept of it.
  pub record WentAlong (old new : KeptHub K) : Type 0 where
    pub same_config : new.hub.config ≡ old.hub.config
    pub begins : BeginsWith (past new.hub) (past old.hub)
    pub disk_went : AlongTold old.hub.config (past old.hub) (past new.hub) (disk old.keeper) (disk new.keeper)

  -- the call's row found no memory, so that the call was not made
  pub record NotMade (old : KeptHub K) (reply : Option Reply) (new : KeptHub K) : Type 0 where
    pub silent : reply ≡ None
    pub stays_open : IsOpen new
    pub same : new ≡ old

  -- the same of a call whose row may find no memory
  abbrev pub KeptOrNot : {A : Type 0} → KeptHub K → Call → ℕ → (A → Option Reply) → Result A KeptFault → KeptHub K → Type 0
  KeptOrNot old call at reply_of (Ok answer) new = KeptServes old call at (reply_of answer) new ⊎ NotMade old (reply_of answer) new
  KeptOrNot old call at reply_of (Err fault) new = KeptFails old call at new

  -- what came of keeping a row of a call that the hub has made
  pub record Finishes (old : KeptHub K) (before : ℕ) (row : List ℕ) (result : Result (Unit {0}) KeptFault) (new : KeptHub K) : Type 0 where
    pub same_hub : new.hub ≡ old.hub
    pub quiet : length old.hub.journal ≤ before → (new.keeper ≡ old.keeper) × (new.is_open ≡ old.is_open) × IsOk result
    pub went : before < length old.hub.journal → KeepsTold row (disk old.keeper) (disk new.keeper)
    pub kept : before < length old.hub.journal → OnOk result (HasKept row (disk old.keeper) (disk new.keeper))
    pub still_open : OnOk result (new.is_open ≡ old.is_open)
    pub closed : OnErr result (new.is_open ≡ false)
