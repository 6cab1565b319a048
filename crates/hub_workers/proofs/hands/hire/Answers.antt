use Rattle.std.proofs.Common.{◌∙◌, refl, arith}
use Rattle.hub_cell.specs.Passes.{knows}
use Rattle.hub_workers.specs.Hands.{IsBehind, IsReady, tool_of}
use Rattle.hub_workers.proofs.GoesLemmas.{goes_both}
use Rattle.hub_workers.proofs.HireLemmas.{hired_so_far}
use Rattle.hub_workers.proofs.ListLemmas.{all_more, prefix_trans, taken_out}
use Rattle.hub_workers.proofs.hands.hire.Goals as goal

pub returns-in-Err-clause-hired : goal.returns-in-Err-clause-hired
returns-in-Err-clause-hired g c =
    let i = c.loop.invariant in
    hired_so_far c.args.hub.now _ _ _ _ _ _ _ i.goes i.ended i.spent i.tools_are i.ready i.behind c.in-Err.ensures.split

pub returns-in-Err-clause-spares : goal.returns-in-Err-clause-spares
returns-in-Err-clause-spares g c =
    let i = c.loop.invariant in
    let kept = c.in-Err.ensures.kept in
    let before = i.spares in
    let count = i.hired in
    omega (arith, kept, before, count)

pub loop-preserved : goal.loop-preserved
loop-preserved g c =
    let i = c.loop.invariant in
    let split = c.in-Ok.ensures.split in
    let least = c.in-Ok.ensures.spares in
    let before = i.spares in
    let hired = i.hired in
    let left = i.left in
    let pushed = c.push_reserved.ensures.len in
    let taken = c.take_last.ensures.len in
    record {
      own = c.in-Ok.ensures.own;
      goes = goes_both _ _ _ i.goes split.goes;
      ended = split.ended ∙ i.ended;
      spent = split.spent ∙ i.spent;
      spares = omega (arith, least, before);
      hired = omega (arith, pushed, hired);
      left = omega (arith, taken, left);
      hands_room = c.push_reserved.ensures.capacity ∙ i.hands_room;
      tools_room = c.take_last.ensures.capacity ∙ i.tools_room;
      tools_are = taken_out tool_of _ _ _ _ _ _ _ i.tools_are c.take_last.ensures.items c.push_reserved.ensures.items refl;
      ready = all_more (IsReady c.args.hub.now) _ _ _ c.push_reserved.ensures.items i.ready (record { own = split.fresh.0; fresh = split.fresh.1; unbegun = refl });
      behind = all_more (IsBehind (knows c.args.pass.now).seen) _ _ _ c.push_reserved.ensures.items i.behind (prefix_trans _ _ _ i.goes.longer split.fresh.2);
    }
