use Rattle.std.proofs.Common.{length}
use Rattle.play_words.proofs.nodes.+are_nodes.Given as goal

-- how many words are left
abbrev pub decreases-are_nodes : goal.decreases-are_nodes
decreases-are_nodes l = length l.words.now
