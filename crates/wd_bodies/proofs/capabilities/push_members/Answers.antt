use Rattle.std.proofs.Common.{◌<◌, length, arith}
use Rattle.std.proofs.lemmas.List.{take_all}
use Rattle.std.proofs.lemmas.Grind.{common_steps}
use Rattle.grid_types.specs.Capabilities.{written_member}
use Rattle.wd_bodies.proofs.Joined.{joined-first, joined-next}
use Rattle.wd_bodies.proofs.capabilities.push_members.Goals as goal
use Rattle.wd_bodies.proofs.capabilities.push_members.Goals.{then-index-gt0+in_ok-push_str, else-index-gt0}

pub returns : goal.returns
returns c = let all = take_all c.loop-index.index c.args.members.now (omega arith) in grind (arith, common_steps)

pub loop-index-preserved : goal.loop-index-preserved
loop-index-preserved c =
    let within : c.loop-index.index < length c.args.members.now = omega arith in
    elim c.if-index-gt0.branch [
      | then-index-gt0+in_ok-push_str w ↦ let next = joined-next 44 written_member c.args.members.now c.loop-index.index c.index-members-index.result within c.index-members-index.is (omega arith) in grind (arith, common_steps)
      | else-index-gt0 w ↦ let first = joined-first 44 written_member c.args.members.now c.loop-index.index c.index-members-index.result within c.index-members-index.is (omega arith) in grind (arith, common_steps)
    ]
