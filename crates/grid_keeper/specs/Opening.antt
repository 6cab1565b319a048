-- What making a hub again from rows promises.
use Rattle.std.specs.Prelude.{◌≡◌, ◌⊎◌, ◌+◌, ℕ, Bool, true, false, List, take, Option, None, Some, IfSome}
use Rattle.grid_types.specs.declared.config.HubConfig.{HubConfig}
use Rattle.grid_types.specs.declared.entry.Entry.{Entry}
use Rattle.hub_core.specs.HubView.{HubView, past}
use Rattle.grid_journal.specs.declared.rows.Row.{Row}
use Rattle.grid_journal.specs.RowReads.{IsRow, NoRow}
use Rattle.row_keeper.specs.Disks.{Disk, row_at}
use Rattle.grid_keeper.specs.Replays.{Goes, IsImage}
use Rattle.grid_keeper.specs.Holds.{HoldsAll}
use Rattle.grid_keeper.specs.declared.left.Left.{Left}
use Rattle.grid_keeper.specs.declared.opening.OpenFault.{OpenFault}
use Rattle.grid_keeper.specs.declared.opening.OpenFault.TheVariants as fault

-- the row's call may not be made after the history, or makes no entry there
abbrev pub NoGo : HubConfig → List Entry → Row → Type 0
NoGo c H r = (later : List Entry) → Goes c H r later → ⊥

-- the row was made again, with just the tokens that are open then, or can't be
abbrev pub Again : HubConfig → List Entry → Row → Bool → List Entry → Left → Type 0
Again c H r true later left = Goes c H r later × HoldsAll later left
Again c H r false later left = NoGo c H r

-- the hub went on by the row, or can't
pub record WentOn (c : HubConfig) (H : List Entry) (r : Row) (went : Bool) (new : HubView)
    (left : Left) : Type 0 where
  pub same_config : new.config ≡ c
  pub again : Again c H r went (past new) left

-- the hub's journal is that of the first so many rows, where they are told, and the tokens that are open are there
pub record MadeAgain (c : HubConfig) (disk : Option Disk) (rows : ℕ) (hub : HubView) (left : Left) : Type 0 where
  pub same_config : hub.config ≡ c
  pub holds : HoldsAll (past hub) left
  pub stands : IfSome disk (λ d. IsImage c (take rows d.rows) (past hub))

-- The row with this number can't be made again: it is no row, or its call may not be made after those before it, or makes
-- no entry there.
abbrev pub IsBadAt : HubConfig → List (List ℕ) → ℕ → Type 0
IsBadAt c rows index =
    (bytes : List ℕ) × (H : List Entry) × (row_at rows index ≡ Some bytes)
    × IsImage c (take index rows) H
    × (NoRow bytes ⊎ ((r : Row) × IsRow bytes r × NoGo c H r))

-- the row was made again, or there is none
abbrev pub TookRow : HubConfig → Option Disk → ℕ → Bool → HubView → Left → Type 0
TookRow c disk index true hub left = MadeAgain c disk (index + 1) hub left
TookRow c disk index false hub left = MadeAgain c disk index hub left × IfSome disk (λ d. row_at d.rows index ≡ None)

-- what a row blames
abbrev pub BadSo : HubConfig → Option Disk → ℕ → OpenFault → Type 0
BadSo c disk index (fault.BadRow i) = (i ≡ index) × IfSome disk (λ d. IsBadAt c d.rows index)
BadSo c disk index e = Unit {0}

-- and all rows
abbrev pub BadAny : HubConfig → Option Disk → OpenFault → Type 0
BadAny c disk (fault.BadRow i) = IfSome disk (λ d. IsBadAt c d.rows i)
BadAny c disk e = Unit {0}

-- the hub's journal is that of all rows, where they are told, and the tokens that are open are there
pub record MadeAll (c : HubConfig) (disk : Option Disk) (hub : HubView) (left : Left) : Type 0 where
  pub same_config : hub.config ≡ c
  pub holds : HoldsAll (past hub) left
  pub stands : IfSome disk (λ d. IsImage c d.rows (past hub))
