use Rattle.std.proofs.Common.{subst, sym}
use Rattle.std.specs.Str.{IsUtf8}
use Rattle.grid_types.proofs.AsciiLemmas.{IsUtf8-address}
use Rattle.grid_types.proofs.names.NodeAddress.as_str.Goals as goal

pub unreachable-requires : goal.unreachable-requires
unreachable-requires c = c.in-Err.ensures.cases.0 (subst IsUtf8 (sym c.as_bytes.ensures.bytes) (IsUtf8-address c.args.self.now c.as_bytes.ensures.rule))
