-- What a reader of requests stands for: the bytes that were fed since the last request.
use Rattle.std.specs.Prelude.{◌≡◌, ◌≢◌, ℕ, ◌+◌, ◌^◌, ◌<◌, ◌≤◌, ◌⊎◌, Bool, true, false, IsTrue, List, [], ◌∷◌, ◌++◌, length, take, Option, MatchOption, vec_capacity}
use Rattle.httparse.specs.Ascii.{carriage_return}
use Rattle.httparse.specs.Grammar.{RequestHead, ChunkLine, chunk_size}
use Rattle.http_frames.specs.declared.FrameFault.TheVariants.{HeadTooLong, BadChunk, BodyTooLong}
use Rattle.http_frames.specs.declared.chunks.TheConstants.{MAX_TRAILERS}
use Rattle.http_frames.specs.declared.fields.Framing.{Framing}
use Rattle.http_frames.specs.declared.fields.Framing.TheVariants.{Sized, Chunked, Faulty}
use Rattle.http_frames.specs.declared.frames.FrameLimits.{FrameLimits}
use Rattle.http_frames.specs.declared.frames.Head.{Head}
use Rattle.http_frames.specs.declared.reader.Phase.{Phase}
use Rattle.http_frames.specs.declared.reader.Phase.TheVariants as phase
use Rattle.http_frames.specs.declared.reader.FrameReader.{FrameReader}
use Rattle.http_frames.specs.declared.reader.ReaderStep.{ReaderStep}
use Rattle.http_frames.specs.declared.reader.ReaderStep.TheVariants as step
use Rattle.http_frames.specs.declared.frames.Step.{Step}
use Rattle.http_frames.specs.declared.frames.Step.TheVariants as front
use Rattle.http_frames.specs.Heads.{ReadsHead, IsOpenHead}
use Rattle.http_frames.specs.Chunks.{Chunk, size_of, parts_of, joined, ReadsLine, ReadsChunks, IsOpenLine, IsOpenTrailers}
use Rattle.http_frames.specs.Frames.{IsRefused, IsAwaited, IsWhole, IsAccepted, HasHead, framing_of, expects}
use Rattle.http_frames.specs.Calm.{StaysOpen, LineStays, TrailersStay}
use Rattle.http_frames.specs.FrameSteps.{HasParts, IsFrameHead, NotRefused}

-- ---- where a reader stands

-- how many bytes it holds
abbrev pub bytes_kept : FrameReader → ℕ
bytes_kept r = length r.head.items + length r.body.items + length r.line.items

-- it holds no more than the limits allow
pub record IsWithinLimits (limits : FrameLimits) (r : FrameReader) : Type 0 where
  pub head : length r.head.items ≤ limits.head
  pub data_in : length r.body.items ≤ limits.body
  pub line : length r.line.items ≤ MAX_TRAILERS

-- in the head: all bytes are kept, and it is known which bytes leave it unfinished
pub record IsInHead (limits : FrameLimits) (r : FrameReader) (bytes : List ℕ) : Type 0 where
  pub kept : r.head.items ≡ bytes
  pub none : (r.body.items ≡ []) × (r.line.items ≡ []) × (r.waits ≡ false)
  pub begun : IsOpenHead bytes
  pub short : length bytes < limits.head
  pub calm : StaysOpen r.calm bytes

-- behind an accepted head, which is kept
pub record IsBehindHead (limits : FrameLimits) (r : FrameReader) (bytes : List ℕ) (h : RequestHead) (rest : List ℕ) : Type 0 where
  pub has : HasHead limits bytes h rest
  pub kept : ReadsHead r.head.items h []
  pub waits : r.waits ≡ expects limits h

-- in a body of that length, of which so many bytes are to come
abbrev pub IsInSized : FrameLimits → FrameReader → List ℕ → ℕ → Type 0
IsInSized limits r bytes left =
    (h : RequestHead) × (rest : List ℕ) × IsBehindHead limits r bytes h rest
    × (framing_of limits h ≡ Sized (length rest + left)) × (0 < left) × (r.body.items ≡ rest) × (r.line.items ≡ [])

-- in a chunked body, behind some chunks; and a fact of those chunks' data and of the bytes behind them
abbrev pub IsInChunks : FrameLimits → FrameReader → List ℕ → (List ℕ → List ℕ → Type 0) → Type 0
IsInChunks limits r bytes Then =
    (h : RequestHead) × (rest : List ℕ) × IsBehindHead limits r bytes h rest × (framing_of limits h ≡ Chunked)
    × (cs : List Chunk) × (behind : List ℕ) × ReadsChunks rest cs behind × (size_of cs ≤ limits.body)
    × Then (joined (parts_of cs)) behind

-- in a chunk line, which is kept
abbrev pub IsInLine : FrameReader → List ℕ → List ℕ → Type 0
IsInLine r content behind =
    (r.body.items ≡ content) × (r.line.items ≡ behind) × IsOpenLine behind × LineStays r.calm behind

-- behind a chunk line, in that chunk's data, of which so many bytes are to come, and behind it
abbrev pub IsInData : FrameLimits → FrameReader → ℕ → List ℕ → List ℕ → List ℕ → Type 0
IsInData limits r left end content behind =
    (l : ChunkLine) × (part : List ℕ) × ReadsLine behind l (part ++ end) × (0 < chunk_size l)
    × (length content + chunk_size l ≤ limits.body) × (length part + left ≡ chunk_size l)
    × (r.body.items ≡ content ++ part) × (r.line.items ≡ [])

-- behind the last chunk line, in the trailers, which are kept
abbrev pub IsInTrailers : FrameReader → List ℕ → List ℕ → Type 0
IsInTrailers r content behind =
    (l : ChunkLine) × ReadsLine behind l r.line.items × (chunk_size l ≡ 0) × IsOpenTrailers r.line.items
    × (r.body.items ≡ content) × TrailersStay r.calm r.line.items

-- whole: the head and the data are kept
abbrev pub IsAtEnd : FrameLimits → FrameReader → List ℕ → Type 0
IsAtEnd limits r bytes =
    (h : RequestHead) × (parts : List (List ℕ)) × IsWhole limits bytes h parts []
    × ReadsHead r.head.items h [] × (r.waits ≡ expects limits h) × (r.body.items ≡ joined parts)

-- what is so in each phase
abbrev pub StandsIn : Phase → FrameLimits → FrameReader → List ℕ → Type 0
StandsIn phase.Head limits r bytes = IsInHead limits r bytes
StandsIn (phase.Sized left) limits r bytes = IsInSized limits r bytes left
StandsIn phase.Line limits r bytes = IsInChunks limits r bytes (IsInLine r)
StandsIn (phase.Data left) limits r bytes = IsInChunks limits r bytes (IsInData limits r left []) × (0 < left)
StandsIn phase.DataEnd limits r bytes = IsInChunks limits r bytes (IsInData limits r 0 [])
StandsIn phase.Return limits r bytes = IsInChunks limits r bytes (IsInData limits r 0 (carriage_return ∷ []))
StandsIn phase.Trailers limits r bytes = IsInChunks limits r bytes (IsInTrailers r)
StandsIn phase.Whole limits r bytes = IsAtEnd limits r bytes
StandsIn (phase.BadHead why) limits r bytes =
    IsRefused limits bytes why × ((h : RequestHead) → ¬ (IsAccepted limits bytes h))
StandsIn (phase.BadBody why) limits r bytes =
    (h : RequestHead) × (rest : List ℕ) × HasHead limits bytes h rest × (framing_of limits h ≡ Chunked)
    × ReadsHead r.head.items h [] × (r.waits ≡ expects limits h) × IsRefused limits bytes why

-- the reader stands for these bytes
pub record Fed (limits : FrameLimits) (r : FrameReader) (bytes : List ℕ) : Type 0 where
  pub limits_are : r.limits ≡ limits
  pub narrow : limits.head < 2 ^ 32
  pub within : IsWithinLimits limits r
  pub stands : StandsIn r.phase limits r bytes

-- it stands for some bytes
abbrev pub StandsForSome : FrameReader → Type 0
StandsForSome r = (limits : FrameLimits) × (bytes : List ℕ) × Fed limits r bytes

-- ---- what its calls say

-- more bytes may be fed
abbrev pub awaits_in : Phase → Bool
awaits_in phase.Head = true
awaits_in (phase.Sized left) = true
awaits_in phase.Line = true
awaits_in (phase.Data left) = true
awaits_in phase.DataEnd = true
awaits_in phase.Return = true
awaits_in phase.Trailers = true
awaits_in phase.Whole = false
awaits_in (phase.BadHead why) = false
awaits_in (phase.BadBody why) = false

abbrev pub awaits_more : FrameReader → Bool
awaits_more r = awaits_in r.phase

-- a whole request
abbrev pub whole_in : Phase → Bool
whole_in phase.Head = false
whole_in (phase.Sized left) = false
whole_in phase.Line = false
whole_in (phase.Data left) = false
whole_in phase.DataEnd = false
whole_in phase.Return = false
whole_in phase.Trailers = false
whole_in phase.Whole = true
whole_in (phase.BadHead why) = false
whole_in (phase.BadBody why) = false

abbrev pub is_whole : FrameReader → Bool
is_whole r = whole_in r.phase

abbrev pub is_more : ReaderStep → Bool
is_more (step.Whole f) = false
is_more (step.More waits) = true
is_more (step.Refused why) = false

abbrev pub is_whole_step : ReaderStep → Bool
is_whole_step (step.Whole f) = true
is_whole_step (step.More waits) = false
is_whole_step (step.Refused why) = false

-- where a reader is that was fed nothing
abbrev pub IsFirstPhase : FrameLimits → Phase → Type 0
IsFirstPhase limits p =
    ((limits.head ≡ 0) × (p ≡ phase.BadHead HeadTooLong)) ⊎ ((0 < limits.head) × (p ≡ phase.Head))

-- what follows a head that calls for this body
abbrev pub IsPhaseBehind : Framing → Phase → Type 0
IsPhaseBehind (Faulty why) p = p ≡ phase.BadHead why
IsPhaseBehind Chunked p = p ≡ phase.Line
IsPhaseBehind (Sized n) p = ((n ≡ 0) × (p ≡ phase.Whole)) ⊎ ((0 < n) × (p ≡ phase.Sized n))

-- what follows some bytes of a body with a length
abbrev pub IsPhaseOfSized : ℕ → Phase → Type 0
IsPhaseOfSized rest p = ((rest ≡ 0) × (p ≡ phase.Whole)) ⊎ ((0 < rest) × (p ≡ phase.Sized rest))

-- what follows some bytes of a chunk's data
abbrev pub IsPhaseOfData : ℕ → Phase → Type 0
IsPhaseOfData rest p = ((rest ≡ 0) × (p ≡ phase.DataEnd)) ⊎ ((0 < rest) × (p ≡ phase.Data rest))

-- what follows the one byte that is awaited, or another
abbrev pub IsPhaseAt : ℕ → Phase → ℕ → Phase → Type 0
IsPhaseAt wanted next b p = ((b ≡ wanted) × (p ≡ next)) ⊎ ((b ≢ wanted) × (p ≡ phase.BadBody BadChunk))

-- what follows a chunk line with this size, where so many bytes of data may come
abbrev pub IsPhaseBehindLine : ℕ → ℕ → Phase → Type 0
IsPhaseBehindLine left size p =
    ((size ≡ 0) × (p ≡ phase.Trailers))
    ⊎ (((left < size) × (p ≡ phase.BadBody BodyTooLong)) ⊎ ((0 < size) × (size ≤ left) × (p ≡ phase.Data size)))

-- the answer by the definitions of `Frames`: the bytes are one request and no more, whose body is one part
abbrev pub IsReaderStep : FrameLimits → List ℕ → ReaderStep → Type 0
IsReaderStep limits bytes (step.Whole f) =
    (h : RequestHead) × (parts : List (List ℕ)) × IsWhole limits bytes h parts [] × IsFrameHead h f
    × HasParts f.body (joined parts ∷ []) × (f.expects ≡ expects limits h)
IsReaderStep limits bytes (step.More waits) = IsAwaited limits bytes waits
IsReaderStep limits bytes (step.Refused why) = IsRefused limits bytes why

-- the accepted head, or that there is none
abbrev pub IsHeadFound : FrameLimits → List ℕ → Option Head → Type 0
IsHeadFound limits bytes result =
    MatchOption result ((h : RequestHead) → ¬ (IsAccepted limits bytes h))
    (λ head. (h : RequestHead) × IsAccepted limits bytes h × ReadsHead head.bytes.now h [])

-- whether a client waits, by what is noted of an accepted head
abbrev pub waits_in : Phase → Bool → Bool
waits_in phase.Head noted = false
waits_in (phase.BadHead why) noted = false
waits_in p noted = noted

-- whether the head at the front is accepted and its client waits for `100 Continue`
pub record IsWaiting (limits : FrameLimits) (bytes : List ℕ) (waits : Bool) : Type 0 where
  pub accepted : (h : RequestHead) → IsAccepted limits bytes h → waits ≡ expects limits h
  pub only : IsTrue waits → (h : RequestHead) × IsAccepted limits bytes h × (expects limits h ≡ true)

-- neither a whole request is at the front nor a fault in the bytes
abbrev pub HasNoEnd : FrameLimits → List ℕ → Type 0
HasNoEnd limits bytes =
    NotRefused limits bytes × ((h : RequestHead) (parts : List (List ℕ)) (behind : List ℕ) → ¬ (IsWhole limits bytes h parts behind))

-- so many bytes of the piece were fed: at least one, and none behind the end or the fault
pub record Feeds (old : FrameReader) (piece : List ℕ) (n : ℕ) (new : FrameReader) : Type 0 where
  pub inside : n ≤ length piece
  pub some : 0 < length piece → 0 < n
  pub fed : (limits : FrameLimits) (bytes : List ℕ) → Fed limits old bytes → Fed limits new (bytes ++ take n piece)
  pub not_past : (limits : FrameLimits) (bytes : List ℕ) → Fed limits old bytes
      → (m : ℕ) → m < n → HasNoEnd limits (bytes ++ take m piece)

-- it stands for what it stood for
abbrev pub KeepsFed : FrameReader → FrameReader → Type 0
KeepsFed old new =
    (awaits_more new ≡ awaits_more old)
    × ((limits : FrameLimits) (bytes : List ℕ) → Fed limits old bytes → Fed limits new bytes)

-- it stands for what it stood for, is as far, and holds the same bytes
pub record Stays (old new : FrameReader) : Type 0 where
  pub fed : (limits : FrameLimits) (bytes : List ℕ) → Fed limits old bytes → Fed limits new bytes
  pub awaits : awaits_more new ≡ awaits_more old
  pub whole : is_whole new ≡ is_whole old
  pub kept : bytes_kept new ≡ bytes_kept old

-- no memory is held for a head, a body or a line of which there is no byte
pub record HasNoSpare (r : FrameReader) : Type 0 where
  pub head : r.head.items ≡ [] → vec_capacity r.head ≡ 0
  pub data_in : r.body.items ≡ [] → vec_capacity r.body ≡ 0
  pub line : r.line.items ≡ [] → vec_capacity r.line ≡ 0

-- the answer of a reader and that of `next_request` on the bytes that were fed say the same
abbrev pub IsAlike : List ℕ → ReaderStep → Step → Type 0
IsAlike bytes (step.Whole f) (front.Whole g n) =
    (n ≡ length bytes) × (f.method.now ≡ g.method.now) × (f.target.now ≡ g.target.now) × (f.closes ≡ g.closes)
    × (f.expects ≡ g.expects) × (parts : List (List ℕ)) × HasParts g.body parts × HasParts f.body (joined parts ∷ [])
IsAlike bytes (step.More waits) (front.More expects) = waits ≡ expects
IsAlike bytes (step.Refused why) (front.Refused fault) = why ≡ fault
IsAlike bytes (step.Whole f) (front.More expects) = ⊥
IsAlike bytes (step.Whole f) (front.Refused fault) = ⊥
IsAlike bytes (step.More waits) (front.Whole g n) = ⊥
IsAlike bytes (step.More waits) (front.Refused fault) = ⊥
IsAlike bytes (step.Refused why) (front.Whole g n) = ⊥
IsAlike bytes (step.Refused why) (front.More expects) = ⊥
