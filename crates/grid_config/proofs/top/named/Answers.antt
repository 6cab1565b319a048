use Rattle.std.proofs.Common.{◌≡◌, ◌≤◌, ℕ, List, [], ◌∷◌, length, get_or, sym, ap, ◌∙◌, arith}
use Rattle.std.specs.Cmp.Lexicographic.{same_text}
use Rattle.grid_config.proofs.top.named.Goals as goal

-- a list of one word
one_word : (words : List (List ℕ)) (w : List ℕ) → 1 ≤ length words → length words ≤ 1 → w ≡ get_or words 0 w → words ≡ w ∷ []
one_word [] w a b e = absurd (omega arith)
one_word (x ∷ []) w a b e = ap (λ (z : List ℕ). z ∷ []) (sym e)
one_word (x ∷ y ∷ words) w a b e = absurd (omega arith)

pub returns-then-eq-clause-some : goal.returns-then-eq-clause-some
returns-then-eq-clause-some c =
    one_word c.args.words.now c.word-item.result (omega (arith, c.in-len1.len_at_least)) (omega (arith, c.in-len1.len_below)) c.word-item.is
    ∙ ap (λ (z : List ℕ). z ∷ []) (sym c.as_str.ensures.bytes ∙ same_text _ _ c.if-eq.ensures)

pub returns-then-eq-2-clause-some : goal.returns-then-eq-2-clause-some
returns-then-eq-2-clause-some c =
    one_word c.args.words.now c.word-item.result (omega (arith, c.in-len1.len_at_least)) (omega (arith, c.in-len1.len_below)) c.word-item.is
    ∙ ap (λ (z : List ℕ). z ∷ []) (sym c.as_str-else-eq.ensures.bytes ∙ same_text _ _ c.if-eq-2.ensures)
