use Rattle.std.proofs.Common.{◌-◌, length, take, drop, arith, ap, ◌∙◌, length-take}
use Rattle.json_spans.specs.Parts.{is_value, part}
use Rattle.json_spans.proofs.Texts.{found, not_refused, is_value-spelling}
use Rattle.std.proofs.lemmas.Str.{is_utf8-from_IsUtf8}
use Rattle.json_spans.proofs.Utf8.{slice_utf8}
use Rattle.json_spans.proofs.Refusals.{refused_by}
use Rattle.json_spans.proofs.whole.cut.Goals as goal

pub invariant_of-result : goal.invariant_of-result
invariant_of-result c =
    let f = found c.args.text.now c.in-Ok-scan.from c.in-Ok-scan.to c.in-Ok-scan.ensures.exact.0 c.in-Ok-scan.ensures.exact.1 in
    let bounds = c.in-Ok-scan.ensures.bounds in
    let valid = ap is_value f.slice ∙ is_value-spelling f.v f.is.json.is_tree f.is.levels in
    record {
      valid = valid;
      utf8 = slice_utf8 c.args.text.now c.in-Ok-scan.from c.in-Ok-scan.to (is_utf8-from_IsUtf8 _ c.in-Ok.ensures.cases.1) bounds.1 valid;
      fits = omega (arith, length-take (c.in-Ok-scan.to - c.in-Ok-scan.from) (drop c.in-Ok-scan.from c.args.text.now), bounds.2);
    }

pub returns-in-Err-scan-clause-only : goal.returns-in-Err-scan-clause-only
returns-in-Err-scan-clause-only c = λ before v after utf8 t. absurd (not_refused c.args.text.now before v after c.in-Err-scan.fault t c.in-Err-scan.ensures.err)

pub returns-in-Ok-scan-clause-ok : goal.returns-in-Ok-scan-clause-ok
returns-in-Ok-scan-clause-ok c =
    let f = found c.args.text.now c.in-Ok-scan.from c.in-Ok-scan.to c.in-Ok-scan.ensures.exact.0 c.in-Ok-scan.ensures.exact.1 in
    (c.in-Ok.ensures.cases.1, (f.before, f.v, f.after, f.is, ap (λ p. part p (take (c.in-Ok-scan.to - c.in-Ok-scan.from) (drop c.in-Ok-scan.from c.args.text.now))) f.from_is ∙ ap (part (length f.before)) f.slice))

pub returns-in-Err-scan-clause-refused : goal.returns-in-Err-scan-clause-refused
returns-in-Err-scan-clause-refused c = refused_by c.args.text.now c.in-Err-scan.fault c.in-Ok.ensures.cases.1 c.in-Err-scan.ensures.err
