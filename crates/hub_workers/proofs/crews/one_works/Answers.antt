use Rattle.hub_workers.proofs.HandLemmas.{spent_from, worked_ends}
use Rattle.hub_workers.proofs.crews.one_works.Goals as goal

pub returns : goal.returns
returns g c =
    let own = c.worker-hand.ensures.own in
    record {
      fresh = c.requires.fresh;
      ends = record {
        own = own;
        ended = worked_ends c.args.hub.now g.N.NodeLink.gives g.C.Clock.gives c.args.turns _ c.worker-hand.result _ c.worker-hand.ensures.worked c.requires.fresh.ended;
        spent = spent_from _ _ c.worker-hand.result c.worker-hand.ensures.spent c.requires.fresh.spent;
      };
      worked = c.worker-hand.ensures.worked;
      is_legal = c.number.ensures.legal c.args.hub.now own;
      is_safe = c.number.ensures.safe c.args.hub.now own;
    }
