use Rattle.std.proofs.Common.{subst, sym}
use Rattle.std.specs.Str.{IsUtf8}
use Rattle.grid_log.proofs.AsciiNames.{IsUtf8-address}
use Rattle.grid_log.proofs.facts.address_text.Goals as goal

pub unreachable-requires : goal.unreachable-requires
unreachable-requires c = c.in-Err.ensures.cases.0 (subst IsUtf8 (sym c.as_bytes.ensures.bytes) (IsUtf8-address c.args.address.now c.as_bytes.ensures.rule))
