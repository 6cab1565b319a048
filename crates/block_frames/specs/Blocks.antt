-- A block that was read, or what stands in its place.
use Rattle.std.specs.Prelude.{◌≡◌, ◌≤◌, ◌<◌, ◌^◌, ℕ, List, [], ◌++◌, length}
use Rattle.grid_outside.specs.Counts.{Rose}
use Rattle.grid_outside.specs.Told.{SourceView}
use Rattle.block_frames.specs.Frames.{frame, length_bytes}
use Rattle.block_frames.specs.Inputs.{Reads}
use Rattle.block_frames.specs.declared.reading.NextBlock.{NextBlock}
use Rattle.block_frames.specs.declared.reading.NextBlock.TheVariants as next

-- a block was begun, and not all of it is there: some of its length, or its length and fewer bytes than that
pub data IsCut (most : ℕ) (rest : List ℕ) : Type 0 where
  in_length : 0 < length rest → length rest < 4 → IsCut most rest
  in_block : (size : ℕ) (part : List ℕ) → size ≤ most → length part < size → rest ≡ length_bytes size ++ part → IsCut most rest

-- Behind a length of that size: so many bytes; or fewer, where the input ended or no more may be read.
abbrev pub ReadsBody : ℕ → NextBlock → (left fewer : ℕ) → SourceView → SourceView → Type 0
ReadsBody size (next.Block bytes) left fewer old new = Reads bytes left fewer old new × (length bytes ≡ size)
ReadsBody size next.Between left fewer old new = ⊥
ReadsBody size next.Inside left fewer old new =
    (part : List ℕ) × Reads part left fewer old new × (length part < size) × Rose old.ends new.ends × (0 < fewer)
ReadsBody size next.AtLimit left fewer old new =
    (part : List ℕ) × Reads part left fewer old new × (length part < size) × (fewer ≡ 0)
ReadsBody size next.TooLong left fewer old new = ⊥

-- the same, or that the size is more than the most
abbrev pub ReadsSized : ℕ → ℕ → NextBlock → (left fewer : ℕ) → SourceView → SourceView → Type 0
ReadsSized most size (next.Block bytes) left fewer old new =
    Reads bytes left fewer old new × (length bytes ≡ size) × (size ≤ most)
ReadsSized most size next.Between left fewer old new = ⊥
ReadsSized most size next.Inside left fewer old new =
    (part : List ℕ) × Reads part left fewer old new × (length part < size) × (size ≤ most)
    × Rose old.ends new.ends × (0 < fewer)
ReadsSized most size next.AtLimit left fewer old new =
    (part : List ℕ) × Reads part left fewer old new × (length part < size) × (size ≤ most) × (fewer ≡ 0)
ReadsSized most size next.TooLong left fewer old new = Reads [] left fewer old new × (most < size)

-- A block behind its length; or nothing, where the input ended; or a part of a block, where it ended or no more may be read; or a
-- length that is more than the most.
abbrev pub ReadsBlock : ℕ → NextBlock → (left fewer : ℕ) → SourceView → SourceView → Type 0
ReadsBlock most (next.Block bytes) left fewer old new = Reads (frame bytes) left fewer old new × (length bytes ≤ most)
ReadsBlock most next.Between left fewer old new = Reads [] left fewer old new × Rose old.ends new.ends × (0 < fewer)
ReadsBlock most next.Inside left fewer old new =
    (rest : List ℕ) × Reads rest left fewer old new × IsCut most rest × Rose old.ends new.ends × (0 < fewer)
ReadsBlock most next.AtLimit left fewer old new =
    (rest : List ℕ) × Reads rest left fewer old new × IsCut most rest × (fewer ≡ 0)
ReadsBlock most next.TooLong left fewer old new =
    (size : ℕ) × Reads (length_bytes size) left fewer old new × (most < size) × (size < 2 ^ 32)
