use Rattle.std.proofs.Common.{length}
use Rattle.team_words.proofs.nodes.+are_team_nodes.Given as goal

-- how many words are left
abbrev pub decreases-are_team_nodes : goal.decreases-are_team_nodes
decreases-are_team_nodes l = length l.words.now
