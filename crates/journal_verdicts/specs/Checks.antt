-- Where a check stands, and how it goes on.
use Rattle.std.specs.Prelude.{◌≡◌, ℕ, ◌+◌, ◌-◌, ◌*◌, ◌<◌, ◌≤◌, true, cond, List, ◌++◌, length, Option, None, Some}
use Rattle.grid_types.specs.declared.config.HubConfig.{HubConfig}
use Rattle.grid_types.specs.declared.entry.Entry.{Entry}
use Rattle.grid_types.specs.Config.{IsValid}
use Rattle.grid_outside.specs.Counts.{Rose}
use Rattle.grid_outside.specs.Told.{Gains}
use Rattle.grid_journal.specs.Spelled.{head_bytes, journal_bytes}
use Rattle.grid_journal.specs.Fits.{AllFit, ConfigFits}
use Rattle.journal_verdicts.specs.declared.feed.Feed.{Feed}
use Rattle.journal_verdicts.specs.declared.verdict.Verdict.{Verdict}
use Rattle.journal_verdicts.specs.declared.checking.Checking.{Checking}
use Rattle.journal_verdicts.specs.declared.checking.Opened.{Opened}
use Rattle.journal_verdicts.specs.declared.checking.Opened.TheVariants as opened
use Rattle.journal_verdicts.specs.Feeds.{waiting}
use Rattle.grid_ledger.specs.LedgerStands.{AtMost, Stands}
use Rattle.journal_verdicts.specs.Verdicts.{IsJournal, Leaves, LeavesNone, Says, most_bytes, tells_end}

-- what a source tells: the bytes that it has given, and how often it has ended
pub record Told : Type 0 where
  pub given : Option (List ℕ)
  pub ends : ℕ

abbrev pub told : Option (List ℕ) → ℕ → Told
told given ends = record { given = given; ends = ends }

-- where the input has ended, its source said so
abbrev pub EndWasTold : Told → Told → Feed → Type 0
EndWasTold start now feed = feed.ended ≡ true → Rose start.ends now.ends

-- since the start the source gave the journal of a legal history, for which the ledger stands and of which the listener was told,
-- and the bytes that wait
pub record HasRead {L : Type 0} (heard : L → List Entry → Type 0) (start now : Told) (checking : Checking L) : Type 0 where
  pub history : List Entry
  pub bytes : List ℕ
  pub gains : Gains start.given now.given bytes
  pub journal : IsJournal checking.ledger.config history bytes (waiting checking.feed)
  pub stands : Stands checking.ledger history
  pub was_heard : heard checking.listener history
  pub callers : AllFit (AtMost checking.most_caller) history
  pub place : checking.feed.taken ≡ length (journal_bytes checking.ledger.config history)
  pub count : checking.entries ≡ length history
  pub few : checking.entries ≤ checking.feed.taken
  pub ends_later : start.ends ≤ now.ends
  pub end_told : EndWasTold start now checking.feed

-- the verdict on what the source gave since the start
pub record IsTold (start now : Told) (v : Verdict) : Type 0 where
  pub bytes : List ℕ
  pub gains : Gains start.given now.given bytes
  pub says : Says v bytes
  pub end_told : tells_end v ≡ true → Rose start.ends now.ends

-- what a check at its end has, of which this is the verdict
pub record IsLeft {L : Type 0} (heard : L → List Entry → Type 0) (start now : Told) (checking : Checking L) (v : Verdict) : Type 0 where
  pub has_read : HasRead heard start now checking
  pub leaves : Leaves v checking.entries checking.feed.taken (waiting checking.feed)

-- how a check ends with a verdict: where this is one on input that has ended, the check has read it
pub record EndsAt {L : Type 0} (heard : L → List Entry → Type 0) (start now : Told) (checking : Checking L) (v : Verdict) : Type 0 where
  pub is_told : IsTold start now v
  pub is_left : tells_end v ≡ true → IsLeft heard start now checking v

-- how a check goes on that has no verdict yet, or one
abbrev pub Goes : {L : Type 0} → (L → List Entry → Type 0) → Told → Told → Checking L → Option Verdict → Type 0
Goes heard start now checking None = HasRead heard start now checking
Goes heard start now checking (Some v) = EndsAt heard start now checking v

-- whatever the start was, a check that stood so far goes on
abbrev pub GoesOn : {L : Type 0} → (L → List Entry → Type 0) → Told → Told → Checking L → Checking L → Option Verdict → Type 0
GoesOn heard before now old new found = (start : Told) → HasRead heard start before old → Goes heard start now new found

-- what is left to do: each byte that may come is read and taken off, and the end is told once
abbrev pub left_of : Feed → ℕ
left_of feed = 2 * (most_bytes - (feed.taken + length (waiting feed))) + length (waiting feed) + cond feed.ended 0 1

-- less is left, where there is no verdict yet
abbrev pub Lessens : Feed → Feed → Option Verdict → Type 0
Lessens old new found = found ≡ None → left_of new < left_of old

-- a head with a valid configuration was taken off, and what the source gave is the head and what waits
pub record IsOpened (start now : Told) (feed : Feed) (c : HubConfig) : Type 0 where
  pub config_fits : ConfigFits c
  pub is_valid : IsValid c
  pub gains : Gains start.given now.given (head_bytes c ++ waiting feed)
  pub taken : feed.taken ≡ length (head_bytes c)
  pub ends_later : start.ends ≤ now.ends
  pub end_told : EndWasTold start now feed

-- what is found at the front of the input
abbrev pub Opens : Told → Told → Feed → Opened → Type 0
Opens start now feed (opened.Config c) = IsOpened start now feed c
Opens start now feed (opened.Ends v) = IsTold start now v × LeavesNone v
