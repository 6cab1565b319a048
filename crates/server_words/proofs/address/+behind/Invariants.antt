use Rattle.std.proofs.Common.{length}
use Rattle.server_words.proofs.address.+behind.Given as goal

abbrev pub decreases-behind : goal.decreases-behind
decreases-behind l = length l.front.now
