use Rattle.std.proofs.Common.{◌-◌, ◌^◌}
use Rattle.hub_core.specs.CoreStands.{CoreTells}
use Rattle.hub_core.proofs.LapsingLemmas.{Comes}
use Rattle.hub_core.proofs.hub.HubCore.lapsing.Given as goal

abbrev pub invariant-loop-node : goal.invariant-loop-node
invariant-loop-node l = CoreTells l.self (λ H. Comes l.self.config l.now.0 l.from l.sessions H)

abbrev pub decreases-loop-node : goal.decreases-loop-node
decreases-loop-node l = 2 ^ 32 - l.from
