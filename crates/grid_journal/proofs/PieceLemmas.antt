-- What was told to a piece, by what was added to its bytes.
use Rattle.std.proofs.Common.{◌≡◌, ℕ, ◌+◌, ◌-◌, ◌^◌, ◌≤◌, ◌<◌, List, ◌++◌, length, refl, ◌∙◌, ap, arith, length-append, Result, Ok, Err}
use Rattle.grid_types.specs.declared.limits.TheConstants.{LAST_MOMENT}
use Rattle.grid_types.specs.declared.entry.Entry.{Entry}
use Rattle.grid_journal.specs.declared.out.Out.{Out}
use Rattle.grid_journal.specs.declared.piece.PieceFault.{PieceFault}
use Rattle.grid_journal.specs.declared.piece.PieceFault.TheVariants as fault
use Rattle.grid_journal.specs.Spelled.{entry_bytes}
use Rattle.grid_journal.specs.Fits.{EntryFits}
use Rattle.grid_journal.specs.Outs.{Holds, Grows}
use Rattle.grid_journal.specs.Pieces.{Added, KeepsAll, Told}

-- an entry whose moments are up to the latest one
pub told : (e : Entry) (latest : ℕ) (old new : List ℕ) (r : Result (Unit {0}) PieceFault) → (latest ≤ LAST_MOMENT → EntryFits e) → (EntryFits e → latest ≤ LAST_MOMENT)
    → Added old new (entry_bytes e) latest r → Told old new e r
told e latest old new (Ok done) fits late added = (added.0, (fits added.2, added.1))
told e latest old new (Err fault.Memory) fits late added = added
told e latest old new (Err fault.Unreadable) fits late added = (added.0, λ is. added.1 is.1 (late is.0))

-- all that was written is there
pub holds_all : (out : Out) → out.count ≤ 2 ^ 64 - 1 → KeepsAll out → Holds out out.kept.items
holds_all out few all = record { counts = omega (arith, all.counts, few); keeps = λ short. refl }

-- what was written more is there too, where its count did not stop
pub grown_all : (old new : Out) (bytes : List ℕ) → old.count ≤ 2 ^ 64 - 1 → KeepsAll old → Grows old new bytes → new.count < 2 ^ 64 - 1
    → (new.kept.items ≡ old.kept.items ++ bytes) × (new.count ≡ old.count + length bytes) × KeepsAll new
grown_all old new bytes few all grows below =
    let held = grows.grown old.kept.items (holds_all old few all) in
    let long = length-append old.kept.items bytes in
    let kept : new.kept.items ≡ old.kept.items ++ bytes = held.keeps (omega (arith, held.counts, below, grows.same, all.takes_all)) in (
      kept,
      omega (arith, held.counts, below, long, all.counts),
      record { counts = omega (arith, held.counts, below, ap length kept); takes_all = grows.same ∙ all.takes_all },
    )
