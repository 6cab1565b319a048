-- What a call entered, and what a teller promises of it.
use Rattle.std.specs.Prelude.{◌≡◌, ℕ, max, List, [], ◌∷◌, ◌++◌, map, flat_map, Option, None, Some, IfSome, Result, Ok, Err}
use Rattle.grid_types.specs.declared.config.HubConfig.{HubConfig}
use Rattle.grid_types.specs.declared.entry.Entry.{Entry}
use Rattle.grid_types.specs.declared.entry.Change.TheVariants as change
use Rattle.grid_types.specs.declared.entry.EndCause.TheVariants as cause
use Rattle.grid_types.specs.declared.names.Moment.{Moment}
use Rattle.grid_types.specs.History.{clock}
use Rattle.grid_types.specs.Tables.{entry}
use Rattle.grid_types.specs.Calls.{Call, Reply}
use Rattle.grid_types.specs.HubAnswers.{hub, moment}
use Rattle.grid_journal.specs.declared.piece.PieceFault.{PieceFault}
use Rattle.grid_journal.specs.declared.piece.PieceFault.TheVariants as fault
use Rattle.grid_journal.specs.EntryReads.{IsEntry}
use Rattle.grid_journal.specs.Fits.{AllFit}
use Rattle.grid_journal.specs.Spelled.{entry_bytes}

-- the entries that a call makes, the oldest first
abbrev pub made_by : HubConfig → List Entry → ℕ → Call → ℕ → List Entry
made_by config history caller call at =
    map (entry caller) (hub config history caller call at).changes

-- those that it entered: none where there is no reply, out of memory
abbrev pub entered : HubConfig → List Entry → ℕ → Call → ℕ → Option Reply → List Entry
entered config history caller call at None = []
entered config history caller call at (Some reply) = made_by config history caller call at

-- The entries stand behind those from before, and each can be read again; or none is left, for want of memory or since one
-- could not be read again.
abbrev pub ToldAll :
    List ℕ → List ℕ → List Entry → Result (Unit {0}) PieceFault → Type 0
ToldAll old new entries (Ok done) =
    (new ≡ old ++ flat_map entry_bytes entries) × AllFit IsEntry entries
ToldAll old new entries (Err fault.Memory) = new ≡ []
ToldAll old new entries (Err fault.Unreadable) = (new ≡ []) × (AllFit IsEntry entries → ⊥)

-- the call was made at this moment, and was answered as the hub does, or out of memory
pub record Answered (config : HubConfig) (history : List Entry) (caller : ℕ) (call : Call)
    (at : ℕ) (reply : Option Reply) (now : Moment) : Type 0 where
  pub moment_is : now ≡ moment (max at (clock history))
  pub replies : IfSome reply (λ r. r ≡ (hub config history caller call at).reply)

-- nothing has to be known beside the answer
abbrev pub Nothing : HubConfig → List Entry → ℕ → Type 0
Nothing config history at = Unit {0}

-- A teller's promise, for whatever history this is known of: where the call was answered so, its entries are told.
abbrev pub Tells :
    (HubConfig → List Entry → ℕ → Type 0) → ℕ → Call → Option Reply → Moment →
    List ℕ → List ℕ → Result (Unit {0}) PieceFault → Type 0
Tells known caller call reply now old new result =
    (config : HubConfig) (history : List Entry) (at : ℕ) → known config history at →
    Answered config history caller call at reply now →
    ToldAll old new (entered config history caller call at reply) result

-- the end of the session that was idle for too long, if there is one
abbrev pub idle_ended : ℕ → Option ℕ → Moment → List Entry
idle_ended caller None now = []
idle_ended caller (Some binding) now = entry caller (change.Ended binding cause.Idle now) ∷ []
