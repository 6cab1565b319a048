use Rattle.std.proofs.Common.{length}
use Rattle.session_queue.proofs.alike.+are_same_choices.Given as goal

abbrev pub decreases-are_same_choices : goal.decreases-are_same_choices
decreases-are_same_choices l = length l.a.now
