use Rattle.std.proofs.Common.{◌∷◌, ◌-◌, ◌∙◌, List, ℕ, length, take, drop, sym, ap}
use Rattle.std.proofs.lemmas.List.{take_rest}
use Rattle.team_words.proofs.TeamNodeLemmas.{first_three, not_first, not_grown, said_more}
use Rattle.team_words.proofs.nodes.+are_team_nodes.Goals as goal

pub returns-then-is_team_node-clause-some : goal.returns-then-is_team_node-clause-some
returns-then-is_team_node-clause-some t c = λ e.
    let words = c.args.words.now in
    let team = c.team-item.result in
    let word = c.word-item.result in
    let slots = c.slots-item.result in
    let others = take (length words - 3) (drop 3 words) in
    let spelled = first_three words team word slots c.in-len3-up.len_at_least c.team-item.is c.word-item.is c.slots-item.is ∙ ap (λ (ws : List (List ℕ)). team ∷ word ∷ slots ∷ ws) (sym (take_rest words 3)) in
    said_more words others team word slots spelled (c.is_team_node.ensures.some c.if-is_team_node.true) (c.are_team_nodes.ensures.some e)

pub returns-then-is_team_node-clause-none : goal.returns-then-is_team_node-clause-none
returns-then-is_team_node-clause-none t c = λ e.
    let words = c.args.words.now in
    let team = c.team-item.result in
    let word = c.word-item.result in
    let slots = c.slots-item.result in
    let others = take (length words - 3) (drop 3 words) in
    let spelled = first_three words team word slots c.in-len3-up.len_at_least c.team-item.is c.word-item.is c.slots-item.is ∙ ap (λ (ws : List (List ℕ)). team ∷ word ∷ slots ∷ ws) (sym (take_rest words 3)) in
    not_grown words others team word slots spelled (c.are_team_nodes.ensures.none e)

pub returns-else-is_team_node-clause-none : goal.returns-else-is_team_node-clause-none
returns-else-is_team_node-clause-none t c = λ _.
    let words = c.args.words.now in
    let team = c.team-item.result in
    let word = c.word-item.result in
    let slots = c.slots-item.result in
    let others = take (length words - 3) (drop 3 words) in
    let spelled = first_three words team word slots c.in-len3-up.len_at_least c.team-item.is c.word-item.is c.slots-item.is ∙ ap (λ (ws : List (List ℕ)). team ∷ word ∷ slots ∷ ws) (sym (take_rest words 3)) in
    not_first words others team word slots spelled (c.is_team_node.ensures.none c.if-is_team_node.false)
