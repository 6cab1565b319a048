use Rattle.loop_node.proofs.Texts.{Passed}
use Rattle.loop_node.proofs.paths.up_to.Given as goal

abbrev pub invariant-loop-index : goal.invariant-loop-index
invariant-loop-index l = Passed l.stop l.text l.index
