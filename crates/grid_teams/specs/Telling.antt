-- What a client is told that belongs to no team.
use Rattle.std.specs.Prelude.{◌≡◌, codes}
use Rattle.grid_teams.specs.declared.telling.TheConstants.{NOT_NAMED, NO_SUCH_TEAM}

-- the texts of the messages
pub record TextsAre : Type 0 where
  pub not_named : NOT_NAMED.now ≡ codes "no team is named"
  pub no_such_team : NO_SUCH_TEAM.now ≡ codes "no team has this name"
