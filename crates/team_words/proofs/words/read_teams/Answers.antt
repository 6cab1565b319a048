use Rattle.std.proofs.Common.{◌∷◌, ◌-◌, ◌∙◌, List, ℕ, length, take, drop, sym, ap}
use Rattle.std.specs.Cmp.Lexicographic.{same_text}
use Rattle.std.proofs.lemmas.List.{take_rest}
use Rattle.team_words.proofs.TeamNodeLemmas.{behind_first, err_map, first_word, if_ok_map, not_false}
use Rattle.team_words.proofs.words.read_teams.Goals as goal

pub returns-clause-ok : goal.returns-clause-ok
returns-clause-ok c =
    let words = c.args.words.now in
    let others = take (length words - 1) (drop 1 words) in
    let first = sym c.as_str.ensures.bytes ∙ same_text _ _ (not_false _ c.if-ne.ensures) in
    let spelled = first_word words c.first-item.result c.in-len1-up.len_at_least c.first-item.is ∙ ap (λ (ws : List (List ℕ)). c.first-item.result ∷ ws) (sym (take_rest words 1))
    ∙ ap (λ (w : List ℕ). w ∷ others) first in
    if_ok_map c.read_crews.result _ _ (λ teams crews. record { node_words = others; words_are = spelled; crews = crews }) c.read_crews.ensures.ok

pub returns-clause-refused : goal.returns-clause-refused
returns-clause-refused c =
    let words = c.args.words.now in
    let others = take (length words - 1) (drop 1 words) in
    let first = sym c.as_str.ensures.bytes ∙ same_text _ _ (not_false _ c.if-ne.ensures) in
    let spelled = first_word words c.first-item.result c.in-len1-up.len_at_least c.first-item.is ∙ ap (λ (ws : List (List ℕ)). c.first-item.result ∷ ws) (sym (take_rest words 1))
    ∙ ap (λ (w : List ℕ). w ∷ others) first in
    err_map c.read_crews.result _ _ (λ f h refused teams says. h refused teams (behind_first words others teams spelled says)) c.read_crews.ensures.refused

pub returns-clause-memory : goal.returns-clause-memory
returns-clause-memory c =
    let words = c.args.words.now in
    let others = take (length words - 1) (drop 1 words) in
    let first = sym c.as_str.ensures.bytes ∙ same_text _ _ (not_false _ c.if-ne.ensures) in
    let spelled = first_word words c.first-item.result c.in-len1-up.len_at_least c.first-item.is ∙ ap (λ (ws : List (List ℕ)). c.first-item.result ∷ ws) (sym (take_rest words 1))
    ∙ ap (λ (w : List ℕ). w ∷ others) first in
    err_map c.read_crews.result _ _
    (λ f h memory. let r = h memory in (r.0, record { node_words = others; words_are = spelled; crews = r.1 })) c.read_crews.ensures.memory
