-- What a verdict says of bytes.
use Rattle.std.specs.Prelude.{◌≡◌, ◌⊎◌, ℕ, ◌^◌, ◌<◌, ◌≤◌, Bool, true, false, List, [], ◌++◌, length, Option}
use Rattle.grid_types.specs.declared.config.HubConfig.{HubConfig}
use Rattle.grid_types.specs.declared.entry.Entry.{Entry}
use Rattle.grid_types.specs.Config.{IsValid}
use Rattle.grid_types.specs.Permitted.{permitted}
use Rattle.grid_types.specs.Legal.{legal}
use Rattle.grid_types.specs.Safe.{IsSafe}
use Rattle.grid_outside.specs.Told.{Gains}
use Rattle.grid_journal.specs.declared.head.HeadStep.TheVariants as step
use Rattle.grid_journal.specs.Spelled.{entry_bytes, journal_bytes}
use Rattle.grid_journal.specs.Fits.{AllFit, ConfigFits}
use Rattle.grid_journal.specs.HeadReads.{HeadRead}
use Rattle.grid_journal.specs.EntryReads.{IsEntry, BeginsEntry, NoEntry}
use Rattle.journal_verdicts.specs.declared.verdict.Verdict.{Verdict}
use Rattle.journal_verdicts.specs.declared.verdict.Verdict.TheVariants as verdict

-- the most bytes that are looked at
abbrev pub most_bytes : ℕ
most_bytes = 2 ^ 40

-- the bytes are a head with a valid configuration, the entries of a legal history in order, and a rest
pub record IsJournal (c : HubConfig) (H : List Entry) (bytes rest : List ℕ) : Type 0 where
  pub config_fits : ConfigFits c
  pub is_valid : IsValid c
  pub entries_fit : AllFit IsEntry H
  pub is_legal : legal c H ≡ true
  pub spelled : bytes ≡ journal_bytes c H ++ rest

-- all of them, and of so many entries; so the history is safe
pub record IsLegal (entries : ℕ) (bytes : List ℕ) : Type 0 where
  pub config : HubConfig
  pub history : List Entry
  pub journal : IsJournal config history bytes []
  pub is_safe : IsSafe history
  pub count : entries ≡ length history
  pub few : length bytes < most_bytes

-- the journal of a legal history of so many entries, then an entry that is not permitted after them, and what follows
pub record IsIllegal (number : ℕ) (bytes : List ℕ) : Type 0 where
  pub config : HubConfig
  pub history : List Entry
  pub entry : Entry
  pub rest : List ℕ
  pub journal : IsJournal config history bytes (entry_bytes entry ++ rest)
  pub count : number ≡ length history
  pub entry_fits : IsEntry entry
  pub refused : permitted config history entry.caller entry.change ≡ false

-- the journal of a legal history, of so many bytes, and behind it no entry begins
pub record IsBad (at : ℕ) (bytes : List ℕ) : Type 0 where
  pub config : HubConfig
  pub history : List Entry
  pub rest : List ℕ
  pub journal : IsJournal config history bytes rest
  pub place : at ≡ length (journal_bytes config history)
  pub none_begins : NoEntry rest

-- the bytes end inside a head
pub record IsCutHead (at : ℕ) (bytes : List ℕ) : Type 0 where
  pub place : at ≡ 0
  pub begins : HeadRead bytes step.More

-- the journal of a legal history, of so many bytes, and behind it a part of an entry
pub record IsCutEntry (at : ℕ) (bytes : List ℕ) : Type 0 where
  pub config : HubConfig
  pub history : List Entry
  pub rest : List ℕ
  pub journal : IsJournal config history bytes rest
  pub place : at ≡ length (journal_bytes config history)
  pub some : 1 ≤ length rest
  pub begins : BeginsEntry rest
  pub few : length bytes < most_bytes

-- so many bytes as are looked at: the journal of a legal history, and perhaps a part of an entry
pub record IsAtLimit (bytes : List ℕ) : Type 0 where
  pub config : HubConfig
  pub history : List Entry
  pub rest : List ℕ
  pub journal : IsJournal config history bytes rest
  pub begins : BeginsEntry rest
  pub full : length bytes ≡ most_bytes

-- what a verdict says of the bytes that were given
abbrev pub Says : Verdict → List ℕ → Type 0
Says (verdict.Legal entries) bytes = IsLegal entries bytes
Says (verdict.Illegal entry) bytes = IsIllegal entry bytes
Says (verdict.Bad at) bytes = IsBad at bytes
Says (verdict.Cut at) bytes = IsCutHead at bytes ⊎ IsCutEntry at bytes
Says verdict.NotJournal bytes = HeadRead bytes step.NotJournal
Says verdict.Limit bytes = IsAtLimit bytes

-- the verdict is one on input that has ended
abbrev pub tells_end : Verdict → Bool
tells_end (verdict.Legal entries) = true
tells_end (verdict.Cut at) = true
tells_end v = false

-- what a verdict on input that has ended says of the whole entries: so many they are, or so many bytes they take with the head,
-- and a part of another stands behind them
abbrev pub Leaves : Verdict → ℕ → ℕ → List ℕ → Type 0
Leaves (verdict.Legal number) entries whole rest = (number ≡ entries) × (rest ≡ [])
Leaves (verdict.Cut at) entries whole rest = (at ≡ whole) × (1 ≤ length rest) × BeginsEntry rest
Leaves v entries whole rest = ⊥

-- nothing is left of input of which this is the verdict: it has not ended, or inside a head
abbrev pub LeavesNone : Verdict → Type 0
LeavesNone (verdict.Legal entries) = ⊥
LeavesNone (verdict.Cut at) = at ≡ 0
LeavesNone v = Unit {0}

-- the bytes that were given since, of which the verdict says what it says
pub record IsVerdict (old new : Option (List ℕ)) (v : Verdict) : Type 0 where
  pub bytes : List ℕ
  pub gains : Gains old new bytes
  pub says : Says v bytes

-- two verdicts that both hold of the same bytes are one
abbrev pub TextsHaveOneVerdict : Type 0
TextsHaveOneVerdict = (v w : Verdict) (bytes : List ℕ) → Says v bytes → Says w bytes → v ≡ w
