use Rattle.std.proofs.Common.{length}
use Rattle.session_queue.proofs.alike.+are_same_caps.Given as goal

abbrev pub decreases-are_same_caps : goal.decreases-are_same_caps
decreases-are_same_caps l = length l.a.now
