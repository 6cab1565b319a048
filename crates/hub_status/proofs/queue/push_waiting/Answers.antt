use Rattle.std.proofs.Common.{arith}
use Rattle.std.proofs.lemmas.List.{take_all}
use Rattle.std.proofs.lemmas.Grind.{common_steps}
use Rattle.hub_status.specs.Queue.{written_wait}
use Rattle.hub_status.proofs.Rows.{joined-map}
use Rattle.hub_status.proofs.queue.push_waiting.Goals as goal

pub returns : goal.returns
returns c = let all = take_all c.loop-index.index c.args.waiting.now (omega arith) in grind (arith, common_steps)

pub loop-index-preserved : goal.loop-index-preserved
loop-index-preserved c =
    let next = joined-map written_wait c.args.waiting.now c.loop-index.index
    (record { request = 0; deadline = record { 0 = 0 }; choices = 0; bytes = 0 }) (omega arith) in
    grind (arith, common_steps)
