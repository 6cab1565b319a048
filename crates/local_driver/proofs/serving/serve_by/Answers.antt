use Rattle.local_driver.proofs.ServedLemmas.{served_locally}
use Rattle.local_driver.proofs.serving.serve_by.Goals as goal

pub returns-clause-served : goal.returns-clause-served
returns-clause-served g c =
    served_locally g.N.NodeLink.gives g.C.Clock.gives c.args.own.now c.in_ok-result.result _ _ c.conversations_find_spent_last.ensures c.is_legal.ensures
    c.in_ok-result.ensures.ended
