use Rattle.std.proofs.Common.{length}
use Rattle.team_words.proofs.nodes.+read_all.Given as goal

-- how many words are left
abbrev pub decreases-read_all : goal.decreases-read_all
decreases-read_all l = length l.words.now
