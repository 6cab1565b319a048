-- What a keeper tells of its bytes.
use Rattle.std.specs.Io.KnownBytes.{Appends}
use Rattle.std.specs.Prelude.{◌≡◌, ℕ, ◌≤◌, List, ◌++◌, flat_map, length, take, Option, option_map, IfSome}
use Rattle.grid_types.specs.declared.config.HubConfig.{HubConfig}
use Rattle.grid_types.specs.declared.entry.Entry.{Entry}
use Rattle.grid_journal.specs.Spelled.{entry_bytes}
use Rattle.journal_keeper.specs.Images.{written, IsImage}

-- These bytes stand behind all that were told. Where none were told, none are.
abbrev pub Adds : Option (List ℕ) → Option (List ℕ) → List ℕ → Type 0
Adds old new piece = new ≡ option_map (λ bytes. bytes ++ piece) old

-- so many bytes from the front of the piece stand there
abbrev pub AddsFront : Option (List ℕ) → Option (List ℕ) → List ℕ → ℕ → Type 0
AddsFront old new piece taken = Adds old new (take taken piece) × (taken ≤ length piece)

-- The same of what a writer tells, who may begin to tell something later.
abbrev pub AppendsFront : Option (List ℕ) → Option (List ℕ) → List ℕ → ℕ → Type 0
AppendsFront old new piece taken = Appends old new (take taken piece) × (taken ≤ length piece)

-- what is told is the journal of the log
abbrev pub Holds : HubConfig → List Entry → Option (List ℕ) → Type 0
Holds config log kept = IfSome kept (λ bytes. bytes ≡ written config log)

-- it is that, and a front of the entries that were made, perhaps with a part of one more
abbrev pub HoldsCut : HubConfig → List Entry → List Entry → Option (List ℕ) → Type 0
HoldsCut config log made kept = IfSome kept (λ bytes. IsImage config log made bytes)

-- A journal with the bytes of entries behind it is the journal of the log with these entries.
abbrev pub PiecesGoOn : Type 0
PiecesGoOn = (config : HubConfig) (log made : List Entry) (old new : Option (List ℕ)) →
    Holds config log old → Adds old new (flat_map entry_bytes made) → Holds config (log ++ made) new

-- Wherever an append of the bytes of entries ends, what stands there is an image of the journal with these entries.
abbrev pub CutPiecesAreImages : Type 0
CutPiecesAreImages = (config : HubConfig) (log made : List Entry) (old new : Option (List ℕ)) (taken : ℕ) →
    Holds config log old → AddsFront old new (flat_map entry_bytes made) taken →
    HoldsCut config log made new
