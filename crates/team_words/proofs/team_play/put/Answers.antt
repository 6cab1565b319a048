use Rattle.std.proofs.Common.{◌<◌, ℕ, List, Some, length, subst, ap, ap₂, sym, ◌∙◌, slice_set}
use Rattle.std.specs.Prelude.{None}
use Rattle.std.proofs.lemmas.Option.{slice_get-get_or}
use Rattle.grid_teams.specs.Places.{names_by, place_of}
use Rattle.team_words.specs.declared.team_play.TeamPlay.{TeamPlay}
use Rattle.team_words.proofs.TeamNodeLemmas.{none_named, ok_map, one_named}
use Rattle.team_words.proofs.team_play.put.Goals as goal

pub returns-in-Some : goal.returns-in-Some
returns-in-Some c =
    let items = c.args.teams.now.items in
    let place = c.in-Some.place in
    let now = c.index_mut.result.now in
    let named = ap₂ (λ (n : List ℕ) (ts : List TeamPlay). place_of n (names_by (λ (u : TeamPlay). u.name) ts)) (sym c.as_bytes.ensures.value) (sym c.as_slice.ensures.value) ∙ sym c.in-Some.ensures.place in
    let within = subst (λ (ts : List TeamPlay). place < length ts) c.as_slice.ensures.value c.in-Some.ensures.within in
    let there = slice_get-get_or items place now within ∙ ap Some (sym c.index_mut.ensures.value) in
    ok_map c.push_node.result _ _
    (λ e. ap (λ (t : TeamPlay). slice_set items place t) e ∙ sym (one_named items c.args.name.now c.args.node place now named there)) c.push_node.ensures

pub returns-in-None : goal.returns-in-None
returns-in-None c =
    let items = c.args.teams.now.items in
    let named = ap₂ (λ (n : List ℕ) (ts : List TeamPlay). place_of n (names_by (λ (u : TeamPlay). u.name) ts)) (sym c.as_bytes.ensures.value) (sym c.as_slice.ensures.value) ∙ sym c.in-None.ensures.place in
    ok_map c.push_team.result _ _ (λ e. e ∙ sym (none_named items c.args.name.now c.args.node named)) c.push_team.ensures
