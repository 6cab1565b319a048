-- What stands in a piece of a journal once an entry was told to it.
use Rattle.std.specs.Prelude.{◌≡◌, ℕ, ◌-◌, ◌^◌, ◌≤◌, List, [], ◌++◌, length, Result, Ok, Err}
use Rattle.grid_types.specs.declared.entry.Entry.{Entry}
use Rattle.grid_types.specs.declared.entry.Change.{Change}
use Rattle.grid_types.specs.declared.limits.TheConstants.{LAST_MOMENT}
use Rattle.grid_journal.specs.declared.out.Out.{Out}
use Rattle.grid_journal.specs.declared.piece.PieceFault.{PieceFault}
use Rattle.grid_journal.specs.declared.piece.PieceFault.TheVariants as fault
use Rattle.grid_journal.specs.declared.reading.TheConstants.{MOST_ENTRY_BYTES}
use Rattle.grid_journal.specs.EntryReads.{IsEntry}
use Rattle.grid_journal.specs.Spelled.{entry_bytes}

-- all that was written was kept
pub record KeepsAll (out : Out) : Type 0 where
  pub counts : out.count ≡ length out.kept.items
  pub takes_all : out.most ≡ 2 ^ 64 - 1

-- The bytes stand behind those from before, are no more than an entry may have, and tell no moment past the last one; or no
-- byte is left, for want of memory or since one of these does not hold.
abbrev pub Added : List ℕ → List ℕ → List ℕ → ℕ → Result (Unit {0}) PieceFault → Type 0
Added old new bytes latest (Ok done) =
    (new ≡ old ++ bytes) × (length bytes ≤ MOST_ENTRY_BYTES) × (latest ≤ LAST_MOMENT)
Added old new bytes latest (Err fault.Memory) = new ≡ []
Added old new bytes latest (Err fault.Unreadable) =
    (new ≡ []) × (length bytes ≤ MOST_ENTRY_BYTES → latest ≤ LAST_MOMENT → ⊥)

-- The entry stands behind those from before, and can be read again; or none is left, for want of memory or since it could
-- not be read again.
abbrev pub Told : List ℕ → List ℕ → Entry → Result (Unit {0}) PieceFault → Type 0
Told old new e (Ok done) = (new ≡ old ++ entry_bytes e) × IsEntry e
Told old new e (Err fault.Memory) = new ≡ []
Told old new e (Err fault.Unreadable) = (new ≡ []) × (IsEntry e → ⊥)

-- the caller's entry of a change
abbrev pub of : ℕ → Change → Entry
of caller change = record { caller = caller; change = change }
