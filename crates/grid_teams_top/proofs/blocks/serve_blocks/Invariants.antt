use Rattle.std.proofs.Common.{◌-◌, ◌≤◌, ◌++◌, ℕ, List, drop, length}
use Rattle.grid_play.specs.Talks.{Standing}
use Rattle.team_words.specs.declared.team_play.TeamPlay.{TeamPlay}
use Rattle.grid_teams_top.specs.Blocks.{AllPlay, ServesBlocks, standings}
use Rattle.grid_teams_top.proofs.blocks.serve_blocks.Given as goal

-- whatever serves the blocks that are left completes the serving of all
abbrev pub invariant-each : goal.invariant-each
invariant-each l = record {
  within : l.at ≤ length l.blocks;
  so_far : (said : List TeamPlay) → AllPlay said l.fn.teams → AllPlay said l.teams × ((rest : List (List ℕ)) (last : ℕ → Standing) →
      ServesBlocks said (standings l.teams) (drop l.at l.blocks) rest last → ServesBlocks said (standings l.fn.teams) l.blocks (l.outs.items ++ rest) last);
}

abbrev pub decreases-each : goal.decreases-each
decreases-each l = length l.blocks - l.at
