use Rattle.std.proofs.Common.{◌∷◌, ◌∙◌, List, ℕ, sym, ap, subst, drop}
use Rattle.std.specs.Cmp.Lexicographic.{same_text}
use Rattle.std.specs.Option.{option_copied}
use Rattle.std.proofs.lemmas.List.{take_rest}
use Rattle.play_words.specs.Options.{timeout_name, IsSplit}
use Rattle.play_words.proofs.OptionLemmas.{first_word, not_false}
use Rattle.play_words.proofs.words.parts_of.Goals as goal

pub returns-clause-some : goal.returns-clause-some
returns-clause-some c =
    let others = drop 1 c.args.words.now in
    let play = sym c.as_str.ensures.bytes ∙ same_text _ _ (not_false _ c.if-ne.ensures) in
    record {
      others = others;
      front = c.option_of.result.0.now;
      begins = first_word c.args.words.now c.play-item.result c.in-len1-up.len_at_least c.play-item.is ∙ ap (λ (w : List ℕ). w ∷ others) play;
      timeout_split = subst (λ (ws : List (List ℕ)). IsSplit timeout_name ws c.option_of.result.0.now (option_copied c.option_of.result.1)) (take_rest c.args.words.now 1) c.option_of.ensures;
      refusal_split = c.option_of-2.ensures;
    }
