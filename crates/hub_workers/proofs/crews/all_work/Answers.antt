use Rattle.std.proofs.Common.{rules}
use Rattle.hub_workers.specs.Hands.{HandDid}
use Rattle.hub_workers.proofs.ListLemmas.{at_both, zip_each}
use Rattle.hub_workers.proofs.crews.all_work.Goals as goal

pub returns : goal.returns
returns g c =
    let R = HandDid {N = g.row.N.Denot} {C = g.row.C.Denot} c.args.hub.now g.N.NodeLink.gives g.C.Clock.gives g.C.Clock.view c.args.turns in
    record {
      did = zip_each R c.args.hands.now c.for_each_mut.new.s (search rules)
          (λ i d below. let at = (c.for_each_mut.ensures i d below).1 in at_both R at.argument.now at.after_call.now _ _ at.call at.argument_is at.left);
    }
