-- What a store has of a journal.
use Rattle.std.specs.Prelude.{◌≡◌, ◌⊎◌, ℕ, ◌≤◌, Bool, true, false, List, [], length, Option, None, Some, IfSome}
use Rattle.grid_types.specs.declared.config.HubConfig.{HubConfig}
use Rattle.grid_types.specs.declared.entry.Entry.{Entry}
use Rattle.grid_types.specs.Slots.{is_listed, listed}
use Rattle.grid_journal.specs.EntryReads.{BeginsEntry}
use Rattle.grid_ledger.specs.LedgerStands.{LedgerTells, Stands}
use Rattle.grid_ledger.specs.Open.{NoRequest, NoSlot, SomeRequest, SomeSlot}
use Rattle.grid_journal.specs.Spelled.{journal_bytes}
use Rattle.grid_replay.specs.declared.replay.Replay.{Replay}
use Rattle.grid_replay.specs.Replays.{Shows}
use Rattle.journal_verdicts.specs.declared.found.Journal.{Journal}
use Rattle.journal_verdicts.specs.declared.verdict.Verdict.{Verdict}
use Rattle.journal_verdicts.specs.declared.verdict.Verdict.TheVariants as verdict
use Rattle.journal_verdicts.specs.Verdicts.{IsJournal, LeavesNone}

-- The bytes, where they are told, are the journal of this legal history, and behind it nothing, or a part of one entry more. So they
-- are of no other history.
pub record IsLeft (given : Option (List ℕ)) (config : HubConfig) (history : List Entry) : Type 0 where
  pub bytes : List ℕ
  pub rest : List ℕ
  pub are : IfSome given (λ told. told ≡ bytes)
  pub journal : IsJournal config history bytes rest
  pub ends : (rest ≡ []) ⊎ ((1 ≤ length rest) × BeginsEntry rest)

-- what stands for the whole entries of a journal: the ledger, the replay, their number, and that of their bytes with the head
pub record StandsFor (journal : Journal Replay) (history : List Entry) : Type 0 where
  pub stands : Stands journal.ledger history
  pub shows : Shows journal.listener history
  pub count : journal.entries ≡ length history
  pub place : journal.whole ≡ length (journal_bytes journal.ledger.config history)

-- the bytes are the journal of some history, and this stands for it
pub record Found (given : Option (List ℕ)) (journal : Journal Replay) : Type 0 where
  pub history : List Entry
  pub left : IsLeft given journal.ledger.config history
  pub stands_for : StandsFor journal history

-- what was read has this verdict, and where that leaves a journal, this stands for it
abbrev pub ByJournal : Option (List ℕ) → Verdict → Option (Journal Replay) → Type 0
ByJournal given verdict None = LeavesNone verdict
ByJournal given verdict (Some journal) = Found given journal

-- the bytes end inside a head or an entry
abbrev pub is_cut : Verdict → Bool
is_cut (verdict.Cut at) = true
is_cut other = false

-- what a hub may do depends on these alone
pub record HasOptions (told config : HubConfig) : Type 0 where
  pub timeout : config.timeout_ms ≡ told.timeout_ms
  pub idle : config.idle_ms ≡ told.idle_ms
  pub lapse : config.lapse_ms ≡ told.lapse_ms
  pub down : config.down_ms ≡ told.down_ms
  pub queue : config.queue_requests ≡ told.queue_requests
  pub rejects : config.reject_unsupported ≡ told.reject_unsupported

-- the node is not listed
abbrev pub IsUnlisted : List Entry → ℕ → Type 0
IsUnlisted history node = is_listed history node ≡ false

-- no node is listed
abbrev pub NoNode : List Entry → Type 0
NoNode history = listed history ≡ []

-- nothing goes on: no node is listed, and nothing is open
abbrev pub IsOver : List Entry → Type 0
IsOver history = NoNode history × NoSlot history × NoRequest history

-- some node is listed
abbrev pub SomeNode : List Entry → Type 0
SomeNode history = (node : ℕ) × (is_listed history node ≡ true)

-- something goes on: a node is listed, a slot is open, or a request
abbrev pub IsOngoing : List Entry → Type 0
IsOngoing history = SomeNode history ⊎ (SomeSlot history ⊎ SomeRequest history)

-- there is no entry yet, or something goes on
abbrev pub IsUnfinished : List Entry → Type 0
IsUnfinished history = (history ≡ []) ⊎ IsOngoing history

-- the same of what stands for a history
abbrev pub IsToGoOn : Journal Replay → Type 0
IsToGoOn journal = (journal.entries ≡ 0) ⊎ LedgerTells journal.ledger IsOngoing
