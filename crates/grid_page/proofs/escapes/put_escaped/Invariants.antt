use Rattle.std.proofs.Common.{◌≡◌, drop}
use Rattle.grid_page.specs.Escapes.{with_escaped}
use Rattle.grid_page.proofs.escapes.put_escaped.Given as goal

abbrev pub invariant-loop-byte : goal.invariant-loop-byte
invariant-loop-byte l = with_escaped l.sheet.bytes.items (drop l.byte-index l.bytes) ≡ with_escaped l.fn.sheet.bytes.items l.bytes
