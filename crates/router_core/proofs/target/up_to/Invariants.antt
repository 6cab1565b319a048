use Rattle.router_core.proofs.Texts.{Passed}
use Rattle.router_core.proofs.target.up_to.Given as goal

abbrev pub invariant-loop-index : goal.invariant-loop-index
invariant-loop-index l = Passed l.stop l.text l.index
