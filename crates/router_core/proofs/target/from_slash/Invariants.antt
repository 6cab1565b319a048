use Rattle.router_core.proofs.Texts.{Passed}
use Rattle.router_core.proofs.target.from_slash.Given as goal

abbrev pub invariant-loop-index : goal.invariant-loop-index
invariant-loop-index l = Passed 47 l.path l.index
