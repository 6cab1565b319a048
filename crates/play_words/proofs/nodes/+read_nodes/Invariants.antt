use Rattle.std.proofs.Common.{length}
use Rattle.play_words.proofs.nodes.+read_nodes.Given as goal

-- how many words are left
abbrev pub decreases-read_nodes : goal.decreases-read_nodes
decreases-read_nodes l = length l.words.now
