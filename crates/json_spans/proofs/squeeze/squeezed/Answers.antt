use Rattle.std.proofs.Common.{◌≡◌, sym, subst, rules}
use Rattle.json_spans.specs.Span.{part_of}
use Rattle.json_spans.specs.Squeeze.{squeezed}
use Rattle.json_spans.proofs.Tightness.{is_tight}
use Rattle.json_spans.proofs.Utf8.{squeezed_utf8}
use Rattle.std.specs.Prelude.{IsUtf8}
use Rattle.json_spans.proofs.squeeze.squeezed.Goals as goal

pub unwrap-requires : goal.unwrap-requires
unwrap-requires c = c.from_utf8.ensures.succeeds (subst IsUtf8 (sym c.in_ok-out.ensures) (squeezed_utf8 c.args.span.bytes.now c.args.span.utf8))

pub returns-clause-tight : goal.returns-clause-tight
returns-clause-tight c = let bytes : c.from_string.result ≡ squeezed c.args.span.bytes.now = search rules in is_tight (part_of c.args.span) c.from_string.result bytes
