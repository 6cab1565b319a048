use Rattle.hub_workers.proofs.WorkLemmas.{all_last, all_more, all_none}
use Rattle.hub_workers.proofs.ticking.end_all_idle.Goals as goal

pub loop-init : goal.loop-init
loop-init g c = record { own = c.requires; way = all_none c.args.hub.now g.N.NodeLink.gives g.C.Clock.gives _ }

pub loop-preserved : goal.loop-preserved
loop-preserved g c = record { own = c.in-Ended.ensures.own; way = all_more c.args.hub.now g.N.NodeLink.gives g.C.Clock.gives _ _ _ c.loop.invariant.way c.in-Ended.ensures.looked }

pub returns-in_default : goal.returns-in_default
returns-in_default g c = record { own = c.end_idle.ensures.own; last = c.in_default.not-Ended; told = c.end_idle.ensures.told; looked = all_last c.args.hub.now g.N.NodeLink.gives g.C.Clock.gives _ _ _ _ c.loop.invariant.way c.end_idle.ensures.looked }
