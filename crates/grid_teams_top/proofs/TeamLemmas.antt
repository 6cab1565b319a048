-- From one standing one block gives one thing.
use Rattle.std.proofs.Common.{◌≡◌, List, Some, sym, ◌∙◌, subst}
use Rattle.grid_types.specs.Config.{default_config}
use Rattle.grid_play.specs.Crew.{first_crew}
use Rattle.grid_play.specs.Talks.{OneTalk}
use Rattle.grid_teams_top.specs.Apart.{GivesOne}
use Rattle.team_words.specs.declared.team_play.TeamPlay.{TeamPlay}
use Rattle.grid_teams_top.specs.Play.{Block, Serves, TeamServes, Unserved, names_of}

some_one : (t u : TeamPlay) → Some t ≡ Some u → t ≡ u
some_one t u e = cc

pub gives_one : OneTalk → (teams : List TeamPlay) → GivesOne (Serves teams) (λ (b : Block). b.place) (Unserved (names_of teams))
gives_one law teams place s y z block out other (t, at, p) (u, at_too, r) =
    let q = subst (λ (v : TeamPlay). TeamServes v s block.bytes other z) (sym (some_one t u (sym at ∙ at_too))) r in
    let same = law default_config (first_crew default_config t.nodes).numbers s y z block.bytes p.served q.served p.steps q.steps out other p.numbered p.talks q.talks p.told q.told in
    (same.same_written, same.same_standing)
