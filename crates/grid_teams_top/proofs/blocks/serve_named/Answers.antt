use Rattle.std.proofs.Common.{refl, sym}
use Rattle.grid_teams_top.specs.Blocks.{by_none, by_team}
use Rattle.grid_teams_top.proofs.TeamBlockLemmas.{if_ok}
use Rattle.grid_teams_top.proofs.blocks.serve_named.Goals as goal

pub returns-in-Some : goal.returns-in-Some
returns-in-Some c = if_ok c.serve_at.result c.serve_at.ensures (λ out x. by_team c.in-Some.place (sym c.in-Some.ensures.place) x)

pub returns-in-None : goal.returns-in-None
returns-in-None c = if_ok c.failure.result c.failure.ensures (λ out x. by_none (sym c.in-None.ensures.place) x refl)
