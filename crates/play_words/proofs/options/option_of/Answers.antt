use Rattle.std.proofs.Common.{◌≡◌, ◌∷◌, ◌++◌, [], List, ℕ, length, take, ◌-◌, sym, ap, ◌∙◌, append-nil}
use Rattle.std.specs.Cmp.Lexicographic.{same_text, other_text}
use Rattle.play_words.proofs.OptionLemmas.{ends_one, last_two}
use Rattle.play_words.proofs.options.option_of.Goals as goal

pub returns-then-eq : goal.returns-then-eq
returns-then-eq c =
    let words = c.args.words.now in
    let ends = last_two words c.option-item.result c.value-item.result c.in-len2-up.len_at_least c.option-item.is c.value-item.is in
    let name : c.option-item.result ≡ c.args.name.now = sym c.as_str.ensures.bytes ∙ same_text _ _ c.if-eq.ensures in
    record {
      spelled = ends ∙ ap (λ (n : List ℕ). take (length words - 2) words ++ n ∷ c.value-item.result ∷ []) name
          ∙ ap (λ (v : List ℕ). take (length words - 2) words ++ c.args.name.now ∷ v ∷ []) (sym c.as_str-then-eq.ensures.bytes);
      whole = λ none. absurd cc;
    }

pub returns-else-eq : goal.returns-else-eq
returns-else-eq c =
    let words = c.args.words.now in
    let ends = last_two words c.option-item.result c.value-item.result c.in-len2-up.len_at_least c.option-item.is c.value-item.is in
    record {
      spelled = sym (append-nil words);
      whole = λ none front value e.
          let one = ends_one (take (length words - 2) words) front c.option-item.result c.value-item.result c.args.name.now value (sym ends ∙ e) in
          other_text _ _ c.if-eq.ensures (c.as_str.ensures.bytes ∙ one.name);
    }
