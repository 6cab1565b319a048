use Rattle.std.proofs.Common.{arith}
use Rattle.std.proofs.lemmas.List.{take_all}
use Rattle.std.proofs.lemmas.Grind.{common_steps}
use Rattle.hub_status.proofs.Rows.{joined-states}
use Rattle.hub_status.proofs.slots.push_states.Goals as goal

pub returns : goal.returns
returns c = let all = take_all c.loop-index.index c.args.states.now (omega arith) in grind (arith, common_steps)

pub loop-index-preserved : goal.loop-index-preserved
loop-index-preserved c =
    let next = joined-states c.args.first c.args.states.now c.loop-index.index c.index-states-index.result (omega arith) c.index-states-index.is in
    grind (arith, common_steps)
