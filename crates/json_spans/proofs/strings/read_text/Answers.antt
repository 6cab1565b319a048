use Rattle.std.proofs.Common.{◌∙◌, sym, true≢false}
use Rattle.std.proofs.lemmas.Str.{IsUtf8-from_is_utf8}
use Rattle.json_spans.proofs.Reading.{not_none, not_other}
use Rattle.json_spans.proofs.strings.read_text.Goals as goal

pub unreachable-requires : goal.unreachable-requires
unreachable-requires c =
    let s = c.args.span.now in
    not_none s.bytes.now s.valid c.requires (c.in-Err.ensures.err (λ m. true≢false (sym (c.is_memory.ensures.1 m) ∙ c.if-not-is_memory.true)) (IsUtf8-from_is_utf8 s.bytes.now s.utf8))

pub unreachable-requires-in_default : goal.unreachable-requires-in_default
unreachable-requires-in_default c =
    let s = c.args.span.now in
    not_other s.bytes.now s.valid c.requires c.in-Ok.value c.in-Ok.ensures.ok.1 c.in_default.not-String
