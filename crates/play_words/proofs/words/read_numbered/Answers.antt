use Rattle.std.proofs.Common.{◌∷◌, [], ◌∙◌, List, ℕ, sym, ap₂}
use Rattle.std.specs.Cmp.Lexicographic.{same_text}
use Rattle.play_words.proofs.OptionLemmas.{two_words, not_false, some_map}
use Rattle.play_words.proofs.words.read_numbered.Goals as goal

pub returns-clause-some : goal.returns-clause-some
returns-clause-some c =
    let first = sym c.as_str.ensures.bytes ∙ same_text _ _ (not_false _ c.if-ne.ensures) in
    let both = two_words c.args.words.now c.first-item.result c.number-item.result c.in-len2.len_at_least c.in-len2.len_below c.first-item.is c.number-item.is in
    some_map c.large_number_of.result _ _ (λ n is. both ∙ ap₂ (λ (a b : List ℕ). a ∷ b ∷ []) first (sym c.as_str-2.ensures.bytes ∙ is)) c.large_number_of.ensures.some
