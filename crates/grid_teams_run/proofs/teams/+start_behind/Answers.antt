use Rattle.std.proofs.Common.{◌∷◌, ◌-◌, ◌∙◌, List, length, take, drop, sym, ap}
use Rattle.std.proofs.lemmas.List.{take_rest}
use Rattle.team_words.specs.declared.team_play.TeamPlay.{TeamPlay}
use Rattle.grid_teams_run.proofs.StartLemmas.{first_one, ok_map, started_more}
use Rattle.grid_teams_run.proofs.teams.+start_behind.Goals as goal

pub returns-in_ok-add-in-len1-up : goal.returns-in_ok-add-in-len1-up
returns-in_ok-add-in-len1-up t c =
    let said = c.args.said.now in
    let team = c.team-item.result in
    let others = take (length said - 1) (drop 1 said) in
    let spelled = first_one said team c.in-len1-up.len_at_least c.team-item.is ∙ ap (λ (ts : List TeamPlay). team ∷ ts) (sym (take_rest said 1)) in
    ok_map c.start_behind.result _ _
    (started_more said others team c.in_ok-started-in-len1-up.started c.args.teams.now.items c.add.new.teams.items c.start_behind.new.teams.items spelled
    c.in_ok-started-in-len1-up.ensures.plays c.in_ok-started-in-len1-up.ensures.stands c.in_ok-add-in-len1-up.ensures) c.start_behind.ensures
