use Rattle.std.proofs.Common.{List, ℕ, ◌∷◌, [], sym, ap, ◌∙◌}
use Rattle.std.specs.Cmp.Lexicographic.{same_text}
use Rattle.grid_check.proofs.EndLemmas.{one_word}
use Rattle.grid_check.proofs.top.is_check.Goals as goal

pub returns-clause-some : goal.returns-clause-some
returns-clause-some c = λ e.
    let same = sym c.as_str.ensures.bytes ∙ same_text _ _ (sym e ∙ c.eq.ensures) in
    one_word c.args.words.now c.word-item.result c.in-len1.len_at_least c.in-len1.len_below c.word-item.is ∙ ap (λ (w : List ℕ). w ∷ []) same
