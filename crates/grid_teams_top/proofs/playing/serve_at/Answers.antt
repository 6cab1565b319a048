use Rattle.std.proofs.Common.{get_or, refl}
use Rattle.std.proofs.lemmas.Option.{slice_get-get_or}
use Rattle.grid_teams_top.proofs.TeamBlockLemmas.{if_ok}
use Rattle.grid_teams_top.proofs.playing.serve_at.Goals as goal

pub returns : goal.returns
returns c =
    if_ok c.serve_one.result c.serve_one.ensures (λ out x.
    record {
      old = get_or c.args.teams.now c.args.place c.index-teams-place.result;
      new = c.serve_one.new.team;
      stood = slice_get-get_or c.args.teams.now c.args.place c.index-teams-place.result c.requires.place;
      become = refl;
      served = x;
    })
