use Rattle.std.proofs.Common.{◌≡◌, sym, ◌∙◌, ap, decimal, arith}
use Rattle.std.specs.Cmp.Lexicographic.{other_text}
use Rattle.std.proofs.lemmas.Fmt.{parse-decimal}
use Rattle.play_words.proofs.number.number_of.Goals as goal
use Rattle.play_words.proofs.number.number_of.Goals.{else-number-ge1-via-then-number-ge1+then-number-most+else-eq, else-number-ge1-via-then-number-ge1+else-number-most, else-number-ge1-via-else-number-ge1}

pub returns-else-number-ge1-clause-none : goal.returns-else-number-ge1-clause-none
returns-else-number-ge1-clause-none c = λ n least most e.
    let range = c.ranges.most.fits in
    let parsed = parse-decimal 32 n c.args.word.now c.parse.result (omega arith) (omega arith) e c.parse.ensures.value.0 in
    let same : c.in-Ok.number ≡ n = let d = sym c.in-Ok.is ∙ parsed in cc in
    elim c.else-number-ge1.branch [
      | else-number-ge1-via-then-number-ge1+then-number-most+else-eq w ↦
          other_text _ _ w.if-eq.ensures (w.format.ensures.text ∙ ap decimal same ∙ sym e)
      | else-number-ge1-via-then-number-ge1+else-number-most w ↦ omega arith
      | else-number-ge1-via-else-number-ge1 w ↦ omega arith
    ]

pub returns-in-Err-clause-none : goal.returns-in-Err-clause-none
returns-in-Err-clause-none c = λ n least most e.
    let range = c.ranges.most.fits in
    let parsed = parse-decimal 32 n c.args.word.now c.parse.result (omega arith) (omega arith) e c.parse.ensures.value.0 in
    let d = sym c.in-Err.is ∙ parsed in cc
