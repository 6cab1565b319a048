-- What some bytes tell of the head at their front.
use Rattle.std.specs.Prelude.{◌≡◌, ◌⊎◌, ℕ, ◌≤◌, List, ◌++◌, length, take}
use Rattle.httparse.specs.Grammar.{RequestHead}
use Rattle.http_frames.specs.declared.FrameFault.{FrameFault}
use Rattle.http_frames.specs.declared.frames.FrameLimits.{FrameLimits}
use Rattle.http_frames.specs.declared.reader.FrameReader.{FrameReader}
use Rattle.http_frames.specs.Feeding.{Fed}
use Rattle.http_frames.specs.Frames.{IsAccepted, IsRefused}

-- whatever bytes follow, it is the same head that is accepted, or none is
abbrev pub IsHeadTold : FrameLimits → List ℕ → Type 0
IsHeadTold limits bytes = ((h : RequestHead) × IsAccepted limits bytes h) ⊎ ((why : FrameFault) × IsRefused limits bytes why)

-- so many bytes are all that there are, or those that the reader stands for tell the head
abbrev pub IsReadTo : FrameReader → (count at : ℕ) → Type 0
IsReadTo reader count at = (limits : FrameLimits) (fed : List ℕ) → Fed limits reader fed → (at ≡ count) ⊎ IsHeadTold limits fed

-- The reader was fed a front of the bytes behind those before: all of them, or as many as tell the head.
pub record HasRead (limits : FrameLimits) (reader : FrameReader) (before bytes : List ℕ) : Type 0 where
  pub count : ℕ
  pub within : count ≤ length bytes
  pub fed : Fed limits reader (before ++ take count bytes)
  pub told : (count ≡ length bytes) ⊎ IsHeadTold limits (before ++ take count bytes)
