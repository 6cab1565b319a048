use Rattle.std.proofs.Common.{true, false}
use Rattle.local_driver.specs.Idles.{Looked}
use Rattle.local_driver.specs.declared.before.Idle.TheVariants as idle
use Rattle.local_driver.specs.Beginning.{ExpiresOrLacks}
use Rattle.local_driver.proofs.CallLemmas.{goes_same, goes_then}
use Rattle.local_driver.proofs.BeginLemmas.{all_none, all_more, all_then, all_over, all_lacking, found_so}
use Rattle.local_driver.proofs.before.end_all_idle.Goals as goal

pub looks-init : goal.looks-init
looks-init g c = (all_none g.N.NodeLink.gives g.C.Clock.gives _, goes_same g.H.OwnHub.own c.args.hub.now c.requires)

pub looks-preserved : goal.looks-preserved
looks-preserved g c = (
  all_more g.N.NodeLink.gives g.C.Clock.gives _ _ _ c.looks.invariant.0
      (found_so g.N.NodeLink.gives g.C.Clock.gives c.in_ok-end_idle.field-0 idle.Ended _ _ c.in-Ended.is c.in_ok-end_idle.ensures.looked),
  goes_then g.H.OwnHub.own c.args.hub.now c.looks.hub c.end_idle.new.hub c.looks.invariant.1 c.in_ok-end_idle.ensures.goes,
)

pub returns-in-Over-clause-ends : goal.returns-in-Over-clause-ends
returns-in-Over-clause-ends g c = all_then g.N.NodeLink.gives g.C.Clock.gives (Looked idle.Over) (ExpiresOrLacks true) _ _ _ all_over c.looks.invariant.0
    (found_so g.N.NodeLink.gives g.C.Clock.gives c.in_ok-end_idle.field-0 idle.Over _ _ c.in-Over.is c.in_ok-end_idle.ensures.looked)

pub returns-in-Lacks-clause-ends : goal.returns-in-Lacks-clause-ends
returns-in-Lacks-clause-ends g c = all_then g.N.NodeLink.gives g.C.Clock.gives (Looked idle.Lacks) (ExpiresOrLacks false) _ _ _ all_lacking c.looks.invariant.0
    (found_so g.N.NodeLink.gives g.C.Clock.gives c.in_ok-end_idle.field-0 idle.Lacks _ _ c.in-Lacks.is c.in_ok-end_idle.ensures.looked)
