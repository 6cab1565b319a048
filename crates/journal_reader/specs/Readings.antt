-- How a journal is read from an input.
use Rattle.std.specs.Prelude.{◌≡◌, ℕ, ◌+◌, ◌-◌, ◌*◌, ◌^◌, ◌<◌, ◌≤◌, Bool, true, false, cond, List, [], ◌∷◌, ◌++◌, length, Option}
use Rattle.grid_types.specs.declared.config.HubConfig.{HubConfig}
use Rattle.grid_types.specs.declared.entry.Entry.{Entry}
use Rattle.grid_types.specs.Config.{IsValid}
use Rattle.grid_outside.specs.Counts.{Rose}
use Rattle.grid_outside.specs.Told.{Gains}
use Rattle.grid_journal.specs.declared.head.HeadStep.TheVariants as step
use Rattle.grid_journal.specs.HeadReads.{HeadRead}
use Rattle.grid_journal.specs.EntryReads.{IsEntry, BeginsEntry, NoEntry}
use Rattle.grid_journal.specs.Spelled.{head_bytes, journal_bytes}
use Rattle.grid_journal.specs.Fits.{AllFit, ConfigFits}
use Rattle.journal_reader.specs.declared.feed.Feed.{Feed}
use Rattle.journal_reader.specs.declared.reader.Ending.{Ending}
use Rattle.journal_reader.specs.declared.reader.Ending.TheVariants as ending
use Rattle.journal_reader.specs.declared.reader.Next.{Next}
use Rattle.journal_reader.specs.declared.reader.Next.TheVariants as next
use Rattle.journal_reader.specs.declared.reader.Head.{Head}
use Rattle.journal_reader.specs.declared.reader.Head.TheVariants as head
use Rattle.journal_reader.specs.declared.reader.Opened.{Opened}
use Rattle.journal_reader.specs.declared.reader.Opened.TheVariants as opened
use Rattle.journal_reader.specs.declared.reader.JournalReader.{JournalReader}
use Rattle.journal_reader.specs.Feeds.{waiting}

-- the most bytes that are read
abbrev pub most_bytes : ℕ
most_bytes = 2 ^ 40

-- what a source tells: the bytes that it has given, and how often it has ended
pub record Told : Type 0 where
  pub given : Option (List ℕ)
  pub ends : ℕ

abbrev pub told : Option (List ℕ) → ℕ → Told
told given ends = record { given = given; ends = ends }

-- the start again, but for the ends, which are those told by now
abbrev pub asked_again : Told → Told → Told
asked_again start now = told start.given now.ends

-- the bytes that were given in the meantime are a head with a valid configuration, the entries of a history in order, and a rest
pub record Gave (old new : Option (List ℕ)) (c : HubConfig) (H : List Entry) (rest : List ℕ) : Type 0 where
  pub bytes : List ℕ
  pub gains : Gains old new bytes
  pub config_fits : ConfigFits c
  pub is_valid : IsValid c
  pub entries_fit : AllFit IsEntry H
  pub spelled : bytes ≡ journal_bytes c H ++ rest

-- where the input has ended, its source said so
abbrev pub EndWasTold : Told → Told → Feed → Type 0
EndWasTold start now feed = feed.ended ≡ true → Rose start.ends now.ends

-- since the start the source gave the journal of this history, and behind it the bytes that wait
pub record HasRead (start now : Told) (reader : JournalReader) (H : List Entry) : Type 0 where
  pub gave : Gave start.given now.given reader.config H (waiting reader.feed)
  pub place : reader.feed.taken ≡ length (journal_bytes reader.config H)
  pub ends_later : start.ends ≤ now.ends
  pub end_told : EndWasTold start now reader.feed

-- how what stands behind the last entry ends the journal: nothing stands there; a part of an entry does; no entry begins so; or
-- as many bytes were read as are looked at, and perhaps a part of an entry stands there
abbrev pub EndsSo : Ending → (journal rest : List ℕ) → Type 0
EndsSo ending.Whole journal rest = rest ≡ []
EndsSo ending.Cut journal rest = (1 ≤ length rest) × BeginsEntry rest
EndsSo ending.Bad journal rest = NoEntry rest
EndsSo ending.Limit journal rest = BeginsEntry rest × (length journal + length rest ≡ most_bytes)

-- it is an end of the input
abbrev pub tells_end : Ending → Bool
tells_end ending.Whole = true
tells_end ending.Cut = true
tells_end other = false

-- since the start the source gave the journal of this history and a rest that ends it so
pub record HasEnded (start now : Told) (c : HubConfig) (H : List Entry) (e : Ending) : Type 0 where
  pub rest : List ℕ
  pub gave : Gave start.given now.given c H rest
  pub ends_so : EndsSo e (journal_bytes c H) rest
  pub end_told : tells_end e ≡ true → Rose start.ends now.ends

-- since the start the source gave the journal of this history, and perhaps more
pub record HasBegun (start now : Told) (c : HubConfig) (H : List Entry) : Type 0 where
  pub rest : List ℕ
  pub gave : Gave start.given now.given c H rest

-- one entry more was read, or the journal ended
abbrev pub Goes : Told → Told → JournalReader → List Entry → Next → Type 0
Goes start now new H (next.Entry entry) = HasRead start now new (entry ∷ H)
Goes start now new H (next.Ends e) = HasEnded start now new.config H e

-- the same, where there may be no answer yet
abbrev pub GoesIf : Told → Told → JournalReader → List Entry → Option Next → Type 0
GoesIf start now new H Option.None = HasRead start now new H
GoesIf start now new H (Option.Some found) = Goes start now new H found

-- where the journal ended, it has been read as before
abbrev pub Stays : Told → Told → JournalReader → List Entry → Next → Type 0
Stays start now new H (next.Entry entry) = Unit {0}
Stays start now new H (next.Ends e) = HasRead start now new H

-- the same, where there may be no answer yet
abbrev pub StaysIf : Told → Told → JournalReader → List Entry → Option Next → Type 0
StaysIf start now new H Option.None = Unit {0}
StaysIf start now new H (Option.Some found) = Stays start now new H found

-- what is left to do: each byte that may come is read and taken off, and the end is told once
abbrev pub left_of : Feed → ℕ
left_of feed =
    2 * (most_bytes - (feed.taken + length (waiting feed))) + length (waiting feed)
    + cond feed.ended 0 1

-- less is left, where an entry was read
abbrev pub Lessens : Feed → Feed → Next → Type 0
Lessens old new (next.Entry entry) = left_of new < left_of old
Lessens old new (next.Ends e) = Unit {0}

-- less is left, where no end was found
abbrev pub LessensIf : Feed → Feed → Option Next → Type 0
LessensIf old new Option.None = left_of new < left_of old
LessensIf old new (Option.Some found) = Lessens old new found

-- a head was taken off, and what the source gave is the head and what waits
pub record IsOpened (start now : Told) (feed : Feed) (c : HubConfig) : Type 0 where
  pub config_fits : ConfigFits c
  pub is_valid : IsValid c
  pub gains : Gains start.given now.given (head_bytes c ++ waiting feed)
  pub taken : feed.taken ≡ length (head_bytes c)
  pub ends_later : start.ends ≤ now.ends
  pub end_told : EndWasTold start now feed

-- the bytes given end inside a head
pub record IsCut (start now : Told) : Type 0 where
  pub bytes : List ℕ
  pub gains : Gains start.given now.given bytes
  pub begins : HeadRead bytes step.More
  pub end_told : Rose start.ends now.ends

-- no head begins as the bytes given do
pub record IsNone (start now : Told) : Type 0 where
  pub bytes : List ℕ
  pub gains : Gains start.given now.given bytes
  pub none_begins : HeadRead bytes step.NotJournal

-- what is found at the front of the input
abbrev pub Heads : Told → Told → Feed → Head → Type 0
Heads start now feed (head.Config c) = IsOpened start now feed c
Heads start now feed head.Cut = IsCut start now
Heads start now feed head.NotJournal = IsNone start now

-- how a journal is opened
abbrev pub Opens : Told → Told → Opened → Type 0
Opens start now (opened.Journal reader) = HasRead start now reader []
Opens start now opened.Cut = IsCut start now
Opens start now opened.NotJournal = IsNone start now
