use Rattle.std.proofs.Common.{◌≡◌, sym, ◌∙◌, ap, decimal, arith}
use Rattle.std.specs.Cmp.Lexicographic.{other_text}
use Rattle.std.proofs.lemmas.Fmt.{parse-decimal}
use Rattle.play_words.proofs.number.large_number_of.Goals as goal

pub returns-else-eq-clause-none : goal.returns-else-eq-clause-none
returns-else-eq-clause-none c = λ n within e.
    let parsed = parse-decimal 64 n c.args.word.now c.parse.result (omega (arith, within)) (omega (arith, within)) e c.parse.ensures.value.0 in
    let same : c.in-Ok.number ≡ n = let d = sym c.in-Ok.is ∙ parsed in cc in
    other_text _ _ c.if-eq.ensures (c.format.ensures.text ∙ ap decimal same ∙ sym e)

pub returns-in-Err-clause-none : goal.returns-in-Err-clause-none
returns-in-Err-clause-none c = λ n within e.
    let parsed = parse-decimal 64 n c.args.word.now c.parse.result (omega (arith, within)) (omega (arith, within)) e c.parse.ensures.value.0 in
    let d = sym c.in-Err.is ∙ parsed in cc
