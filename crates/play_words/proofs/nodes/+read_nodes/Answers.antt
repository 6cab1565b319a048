use Rattle.std.proofs.Common.{◌≡◌, ◌++◌, ◌∷◌, ◌-◌, ◌∙◌, [], List, ℕ, length, take, drop, sym, ap, subst}
use Rattle.std.proofs.lemmas.List.{take_rest}
use Rattle.play_words.specs.Words.{SaysNode}
use Rattle.play_words.proofs.OptionLemmas.{first_two}
use Rattle.play_words.proofs.PlayLemmas.{grown, not_grown, ok_map, err_map, ok_of}
use Rattle.play_words.proofs.nodes.+read_nodes.Goals as goal

pub returns-else-is_err-clause-ok : goal.returns-else-is_err-clause-ok
returns-else-is_err-clause-ok t c =
    let words = c.args.words.now in
    let word = c.word-item.result in
    let slots = c.slots-item.result in
    let node = c.in_ok-node-in-len2-up.node in
    let others = take (length words - 2) (drop 2 words) in
    let spelled = first_two words word slots c.in-len2-up.len_at_least c.word-item.is c.slots-item.is ∙ ap (λ (ws : List (List ℕ)). word ∷ slots ∷ ws) (sym (take_rest words 2)) in
    let pushed : c.push.new.self ≡ c.args.nodes.now ++ node ∷ [] = ok_of c.push.result _ (sym c.if-is_err.ensures.value) c.push.ensures.ok in
    let said : SaysNode word slots node =
    subst (λ (w : List ℕ). SaysNode w slots node) c.as_str.ensures.bytes
    (subst (λ (s : List ℕ). SaysNode c.as_str.result.now s node) c.as_str-in-len2-up.ensures.bytes c.in_ok-node-in-len2-up.ensures.ok) in
    ok_map c.read_nodes.result _ _ (grown words others word slots node c.args.nodes.now c.push.new.self c.read_nodes.new.nodes spelled said pushed) c.read_nodes.ensures.ok

pub returns-else-is_err-clause-refused : goal.returns-else-is_err-clause-refused
returns-else-is_err-clause-refused t c =
    let words = c.args.words.now in
    let word = c.word-item.result in
    let slots = c.slots-item.result in
    let others = take (length words - 2) (drop 2 words) in
    let spelled = first_two words word slots c.in-len2-up.len_at_least c.word-item.is c.slots-item.is ∙ ap (λ (ws : List (List ℕ)). word ∷ slots ∷ ws) (sym (take_rest words 2)) in
    err_map c.read_nodes.result _ _ (λ f h refused. not_grown words others word slots spelled (h refused)) c.read_nodes.ensures.refused
