use Rattle.std.proofs.Common.{◌∷◌, ◌-◌, ◌∙◌, List, ℕ, length, take, drop, sym, ap}
use Rattle.std.proofs.lemmas.List.{take_rest}
use Rattle.team_words.proofs.TeamNodeLemmas.{err_map, first_three, grown, not_grown, ok_map}
use Rattle.team_words.proofs.nodes.+read_all.Goals as goal

pub returns-in_ok-read_one-in-len3-up-clause-ok : goal.returns-in_ok-read_one-in-len3-up-clause-ok
returns-in_ok-read_one-in-len3-up-clause-ok t c =
    let words = c.args.words.now in
    let team = c.team-item.result in
    let word = c.word-item.result in
    let slots = c.slots-item.result in
    let others = take (length words - 3) (drop 3 words) in
    let spelled = first_three words team word slots c.in-len3-up.len_at_least c.team-item.is c.word-item.is c.slots-item.is ∙ ap (λ (ws : List (List ℕ)). team ∷ word ∷ slots ∷ ws) (sym (take_rest words 3)) in
    ok_map c.read_all.result _ _
    (grown words others team word slots c.args.teams.now.items c.read_one.new.teams.items c.read_all.new.teams.items spelled c.in_ok-read_one-in-len3-up.ensures.ok) c.read_all.ensures.ok

pub returns-in_ok-read_one-in-len3-up-clause-refused :
    goal.returns-in_ok-read_one-in-len3-up-clause-refused
returns-in_ok-read_one-in-len3-up-clause-refused t c =
    let words = c.args.words.now in
    let team = c.team-item.result in
    let word = c.word-item.result in
    let slots = c.slots-item.result in
    let others = take (length words - 3) (drop 3 words) in
    let spelled = first_three words team word slots c.in-len3-up.len_at_least c.team-item.is c.word-item.is c.slots-item.is ∙ ap (λ (ws : List (List ℕ)). team ∷ word ∷ slots ∷ ws) (sym (take_rest words 3)) in
    err_map c.read_all.result _ _ (λ f h refused. not_grown words others team word slots spelled (h refused)) c.read_all.ensures.refused
