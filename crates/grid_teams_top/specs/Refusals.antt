-- What goes out for bytes without an accepted head.
use Rattle.std.specs.Prelude.{◌≡◌, Bool, List, [], ℕ, true}
use Rattle.httparse.specs.Grammar.{RequestHead}
use Rattle.http_frames.specs.declared.FrameFault.{FrameFault}
use Rattle.http_frames.specs.declared.frames.FrameLimits.{FrameLimits}
use Rattle.http_frames.specs.Frames.{IsAccepted, IsAwaited, IsRefused}
use Rattle.conn_script.specs.Messages.{refusal}
use Rattle.conn_script.specs.Responses.{bytes_of}

-- the bytes are refused, and that is told; or more are awaited, and nothing is told; of bytes with an accepted head nothing is said
pub data IsAnswer (limits : FrameLimits) (bytes out : List ℕ) : Type 0 where
  refused_so : (why : FrameFault) → IsRefused limits bytes why → out ≡ bytes_of (refusal why) true → IsAnswer limits bytes out
  awaited_so : (waits : Bool) → IsAwaited limits bytes waits → out ≡ [] → IsAnswer limits bytes out
  headed_so : (h : RequestHead) → IsAccepted limits bytes h → IsAnswer limits bytes out
