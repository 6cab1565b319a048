use Rattle.std.proofs.Common.{subst, sym}
use Rattle.std.specs.Str.{IsUtf8}
use Rattle.grid_types.proofs.AsciiLemmas.{IsUtf8-session}
use Rattle.grid_types.proofs.names.SessionId.as_str.Goals as goal

pub unreachable-requires : goal.unreachable-requires
unreachable-requires c = c.in-Err.ensures.cases.0 (subst IsUtf8 (sym c.as_bytes.ensures.bytes) (IsUtf8-session c.args.self.now c.as_bytes.ensures.rule))
