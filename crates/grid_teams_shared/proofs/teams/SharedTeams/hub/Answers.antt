use Rattle.std.proofs.Common.{◌<◌, ◌∙◌, Some, ap, length, refl, sym}
use Rattle.std.proofs.lemmas.Option.{slice_get-get_or}
use Rattle.grid_teams_shared.proofs.teams.SharedTeams.hub.Goals as goal

pub returns : goal.returns
returns c =
    let teams = c.args.self.now.teams.items in
    let team = c.index.result.now in
    let below : c.args.place < length teams = c.requires in
    (team, slice_get-get_or teams c.args.place team below ∙ ap Some (sym c.index.ensures), refl)
