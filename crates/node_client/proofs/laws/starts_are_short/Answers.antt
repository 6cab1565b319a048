use Rattle.std.proofs.Common.{◌≤◌, arith}
use Rattle.node_client.specs.declared.carry.Carry.{Carry}
use Rattle.node_client.specs.declared.carry.State.{State}
use Rattle.node_client.specs.declared.carry.State.TheVariants as states
use Rattle.node_client.specs.Carrying.{work, work_in}
use Rattle.node_client.proofs.laws.starts_are_short.Goals as goal

few_in : (s : State) → work_in s ≤ 4
few_in (states.Asking r body) = omega arith
few_in (states.ToBind r session caps) = omega arith
few_in states.Binding = omega arith
few_in (states.Returning r path) = omega arith
few_in (states.Quitting c path) = omega arith
few_in (states.ToFail r w) = omega arith
few_in states.Failing = omega arith
few_in (states.ToFree c) = omega arith
few_in states.Freeing = omega arith
few_in (states.Done e) = omega arith

few : (carry : Carry) → work carry ≤ 4
unfolding work
few carry = few_in carry.state

pub returns : goal.returns
returns c = few
