use Rattle.std.proofs.lemmas.Str.{IsUtf8-from_is_utf8}
use Rattle.json_spans.proofs.span.Span.bytes.Goals as goal

pub returns-clause-utf8 : goal.returns-clause-utf8
returns-clause-utf8 c = IsUtf8-from_is_utf8 c.args.self.now.bytes.now c.args.self.now.utf8
