-- What a client is told of a refused request.
use Rattle.std.specs.Prelude.{ℕ, List, codes}
use Rattle.http_frames.specs.declared.FrameFault.{FrameFault}
use Rattle.http_frames.specs.declared.FrameFault.TheVariants as fault

abbrev pub fault_text : FrameFault → List ℕ
fault_text fault.BadHead = codes "bad request: head"
fault_text fault.HeadTooLong = codes "bad request: head too long"
fault_text fault.BadLength = codes "bad request: length"
fault_text fault.BothLengths = codes "bad request: both lengths"
fault_text fault.BadChunk = codes "bad request: chunk"
fault_text fault.BodyTooLong = codes "bad request: body too long"
fault_text fault.OtherCoding = codes "bad request: coding"
