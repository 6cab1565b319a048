use Rattle.std.proofs.Common.{◌∷◌, ◌-◌, ◌∙◌, List, ℕ, length, take, drop, sym, ap, subst}
use Rattle.std.proofs.lemmas.List.{take_rest}
use Rattle.play_words.specs.declared.play.PlayNode.{PlayNode}
use Rattle.play_words.specs.Words.{SaysNode}
use Rattle.play_words.proofs.OptionLemmas.{first_two}
use Rattle.play_words.proofs.PlayLemmas.{not_first, not_grown, said_more}
use Rattle.play_words.proofs.nodes.+are_nodes.Goals as goal

pub returns-then-is_node-clause-some : goal.returns-then-is_node-clause-some
returns-then-is_node-clause-some t c = λ e.
    let words = c.args.words.now in
    let word = c.word-item.result in
    let slots = c.slots-item.result in
    let others = take (length words - 2) (drop 2 words) in
    let spelled = first_two words word slots c.in-len2-up.len_at_least c.word-item.is c.slots-item.is ∙ ap (λ (ws : List (List ℕ)). word ∷ slots ∷ ws) (sym (take_rest words 2)) in
    let node = subst (λ (w : List ℕ). (n : PlayNode) × SaysNode w slots n) c.as_str.ensures.bytes
    (subst (λ (s : List ℕ). (n : PlayNode) × SaysNode c.as_str.result.now s n) c.as_str-in-len2-up.ensures.bytes (c.is_node.ensures.some c.if-is_node.true)) in
    said_more words others word slots spelled node (c.are_nodes.ensures.some e)

pub returns-then-is_node-clause-none : goal.returns-then-is_node-clause-none
returns-then-is_node-clause-none t c = λ e.
    let words = c.args.words.now in
    let word = c.word-item.result in
    let slots = c.slots-item.result in
    let others = take (length words - 2) (drop 2 words) in
    let spelled = first_two words word slots c.in-len2-up.len_at_least c.word-item.is c.slots-item.is ∙ ap (λ (ws : List (List ℕ)). word ∷ slots ∷ ws) (sym (take_rest words 2)) in
    not_grown words others word slots spelled (c.are_nodes.ensures.none e)

pub returns-else-is_node-clause-none : goal.returns-else-is_node-clause-none
returns-else-is_node-clause-none t c = λ _.
    let words = c.args.words.now in
    let word = c.word-item.result in
    let slots = c.slots-item.result in
    let others = take (length words - 2) (drop 2 words) in
    let spelled = first_two words word slots c.in-len2-up.len_at_least c.word-item.is c.slots-item.is ∙ ap (λ (ws : List (List ℕ)). word ∷ slots ∷ ws) (sym (take_rest words 2)) in
    let none = subst (λ (w : List ℕ). (n : PlayNode) → SaysNode w slots n → ⊥) c.as_str.ensures.bytes
    (subst (λ (s : List ℕ). (n : PlayNode) → SaysNode c.as_str.result.now s n → ⊥) c.as_str-in-len2-up.ensures.bytes (c.is_node.ensures.none c.if-is_node.false)) in
    not_first words others word slots spelled none
