use Rattle.std.proofs.Common.{◌≡◌, ◌+◌, vec_len}
use Rattle.grid_teams_shared.proofs.teams.SharedTeams.close.Given as goal

-- so many hubs are ended
abbrev pub invariant-loop : goal.invariant-loop
invariant-loop g l = record {
  left : vec_len l.teams + l.counter ≡ vec_len l.initial.teams;
}
