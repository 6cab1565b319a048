use Rattle.std.proofs.Common.{◌≡◌, ◌∙◌, sym, ap, arith}
use Rattle.std.specs.Prelude.{decimal}
use Rattle.std.specs.Cmp.Lexicographic.{other_text}
use Rattle.std.proofs.lemmas.Fmt.{parse-decimal}
use Rattle.grid_types.proofs.digits.number_of.Goals as goal

pub returns-else-eq : goal.returns-else-eq
returns-else-eq c = λ n within e.
    let parsed = parse-decimal 32 n c.args.text.now c.parse.result (omega arith) (omega arith) e c.parse.ensures.value.0 in
    let same : c.in-Ok.number ≡ n = let d = sym c.in-Ok.is ∙ parsed in cc in
    other_text _ _ c.if-eq.ensures (c.format.ensures.text ∙ ap decimal same ∙ sym e)

pub returns-in-Err : goal.returns-in-Err
returns-in-Err c = λ n within e.
    let parsed = parse-decimal 32 n c.args.text.now c.parse.result (omega arith) (omega arith) e c.parse.ensures.value.0 in
    let d = sym c.in-Err.is ∙ parsed in cc
