use Rattle.std.proofs.Common.{arith}
use Rattle.std.proofs.lemmas.List.{take_all}
use Rattle.std.proofs.lemmas.Grind.{common_steps}
use Rattle.node_signs.specs.Signs.{written_group}
use Rattle.node_signs.proofs.Rows.{joined-map}
use Rattle.node_signs.proofs.body.push_groups.Goals as goal

pub returns : goal.returns
returns c = let all = take_all c.loop-index.index c.args.groups.now (omega arith) in grind (arith, common_steps)

pub loop-index-preserved : goal.loop-index-preserved
loop-index-preserved c =
    let next = joined-map written_group c.args.groups.now c.loop-index.index c.index-groups-index.result (omega arith) in
    let is = c.index-groups-index.is in
    grind (arith, common_steps)
