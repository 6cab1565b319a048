use Rattle.std.proofs.Common.{◌≡◌, ◌++◌, drop}
use Rattle.hub_core.specs.Ahead.{busy_in}
use Rattle.hub_core.proofs.hub.ahead.push_busy.Given as goal

abbrev pub invariant-loop-held : goal.invariant-loop-held
invariant-loop-held l = l.sessions ++ busy_in (drop l.held-index l.uses) ≡ l.initial.sessions ++ busy_in l.uses
