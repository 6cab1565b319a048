use Rattle.std.proofs.Common.{arith}
use Rattle.hub_cell.specs.Passes.{knows}
use Rattle.hub_workers.proofs.StintLemmas.{crew_done, crew_lacks, crew_spent, did_end}
use Rattle.hub_workers.proofs.crews.crew.Goals as goal

pub returns-in-Err-clause-spares : goal.returns-in-Err-clause-spares
returns-in-Err-clause-spares g c =
    let is = c.spares.ensures in
    let fits = c.spares.type_inv in
    c.take_back.ensures.spares _ (omega (arith, is, fits)) c.in-Err.ensures.spares

pub returns-in-Err-clause-did : goal.returns-in-Err-clause-did
returns-in-Err-clause-did g c =
    crew_lacks c.args.hub.now g.N.NodeLink.gives g.C.Clock.gives g.C.Clock.view c.args.turns (knows c.args.pass.now) (knows c.hire.new.pass) (knows c.take_back.new.pass)
    c.args.tools.now.items c.hire.new.tools.items c.take_back.new.tools.items c.hire.new.hands.items c.in-Err.fault c.take_back.result c.in-Err.ensures.hired c.take_back.ensures.back

pub take_back-requires-2-clause-each : goal.take_back-requires-2-clause-each
take_back-requires-2-clause-each g c =
    did_end c.args.hub.now g.N.NodeLink.gives g.C.Clock.gives g.C.Clock.view c.args.turns c.hire.new.hands.items c.all_listed_work.new.hands.items c.all_listed_work.ensures.did

pub returns-in-Some-clause-spares : goal.returns-in-Some-clause-spares
returns-in-Some-clause-spares g c =
    let is = c.spares.ensures in
    let fits = c.spares.type_inv in
    let least = c.in_default-hire.ensures.spares in
    let same = c.all_listed_work.ensures.count in
    c.in-Some.ensures.spares _ (omega (arith, is, fits)) (omega (arith, least, same))

pub returns-in-Some-clause-did : goal.returns-in-Some-clause-did
returns-in-Some-clause-did g c =
    crew_spent c.args.hub.now g.N.NodeLink.gives g.C.Clock.gives g.C.Clock.view c.args.turns (knows c.args.pass.now) (knows c.hire.new.pass) (knows c.take_back-2.new.pass)
    c.args.tools.now.items c.hire.new.tools.items c.take_back-2.new.tools.items c.hire.new.hands.items c.all_listed_work.new.hands.items c.in-Some.spent
    c.in_default-hire.ensures.all c.in_default-hire.ensures.hired c.all_listed_work.ensures.did c.in-Some.ensures.back

pub returns-in-None-clause-spares : goal.returns-in-None-clause-spares
returns-in-None-clause-spares g c =
    let is = c.spares.ensures in
    let fits = c.spares.type_inv in
    let least = c.in_default-hire.ensures.spares in
    let same = c.all_listed_work.ensures.count in
    c.in-None.ensures.spares _ (omega (arith, is, fits)) (omega (arith, least, same))

pub returns-in-None-clause-did : goal.returns-in-None-clause-did
returns-in-None-clause-did g c =
    crew_done c.args.hub.now g.N.NodeLink.gives g.C.Clock.gives g.C.Clock.view c.args.turns (knows c.args.pass.now) (knows c.hire.new.pass) (knows c.take_back-2.new.pass)
    c.args.tools.now.items c.hire.new.tools.items c.take_back-2.new.tools.items c.hire.new.hands.items c.all_listed_work.new.hands.items
    c.in_default-hire.ensures.all c.in_default-hire.ensures.hired c.all_listed_work.ensures.did c.in-None.ensures.back
