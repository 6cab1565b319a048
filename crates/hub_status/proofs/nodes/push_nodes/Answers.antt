use Rattle.std.proofs.Common.{arith}
use Rattle.std.proofs.lemmas.List.{take_all}
use Rattle.std.proofs.lemmas.Grind.{common_steps}
use Rattle.hub_status.specs.Status.{written_node}
use Rattle.hub_status.proofs.Rows.{joined-map}
use Rattle.hub_status.proofs.nodes.push_nodes.Goals as goal

pub returns : goal.returns
returns c = let all = take_all c.loop-index.index c.args.nodes.now (omega arith) in grind (arith, common_steps)

pub loop-index-preserved : goal.loop-index-preserved
loop-index-preserved c =
    let next = joined-map written_node c.args.nodes.now c.loop-index.index c.index-nodes-index.result (omega arith) in
    let is = c.index-nodes-index.is in
    grind (arith, common_steps)
