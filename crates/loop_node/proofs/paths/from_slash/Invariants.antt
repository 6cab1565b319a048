use Rattle.loop_node.proofs.Texts.{Passed}
use Rattle.loop_node.proofs.paths.from_slash.Given as goal

abbrev pub invariant-loop-index : goal.invariant-loop-index
invariant-loop-index l = Passed 47 l.text l.index
