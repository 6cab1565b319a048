-- What a journal's keeper tells, by what it is.
use Rattle.std.specs.Prelude.{ℕ, List, Option, None, Some}
use Rattle.journal_keeper.specs.declared.file.FileKeeper.{FileKeeper}
use Rattle.journal_keeper.specs.declared.keeping.Keeping.{Keeping}
use Rattle.journal_keeper.specs.declared.keeping.Keeping.TheVariants as keeping

abbrev pub faults_in : {F : Type 0} → Option (FileKeeper F) → ℕ
faults_in None = 0
faults_in (Some k) = k.faults

abbrev pub faults_of : Keeping → ℕ
faults_of keeping.Nothing = 0
faults_of (keeping.Memory k) = k.faults
faults_of (keeping.File k) = k.faults
faults_of (keeping.Watched k) = faults_in k.file

-- the bytes in memory; a file tells none
abbrev pub kept_by : Keeping → Option (List ℕ)
kept_by keeping.Nothing = None
kept_by (keeping.Memory k) = Some k.bytes.items
kept_by (keeping.File k) = None
kept_by (keeping.Watched k) = None

abbrev pub synced_of : Keeping → ℕ
synced_of keeping.Nothing = 0
synced_of (keeping.Memory k) = k.synced
synced_of (keeping.File k) = 0
synced_of (keeping.Watched k) = 0
