use Rattle.local_driver.proofs.CallLemmas.{goes_same}
use Rattle.local_driver.proofs.calls.make.Goals as goal

pub returns-in-Lookup : goal.returns-in-Lookup
returns-in-Lookup g c = record { made = rw c.in-Lookup.is (c.lookup.ensures c.args.at.0); goes = goes_same g.H.OwnHub.own c.args.hub.now c.requires.open }

pub returns-in-Freed : goal.returns-in-Freed
returns-in-Freed g c = rw c.in-Freed.is (c.freed.ensures c.args.at.0)

pub returns-in-View : goal.returns-in-View
returns-in-View g c = record { made = rw c.in-View.is (c.view.ensures c.args.at.0); goes = goes_same g.H.OwnHub.own c.args.hub.now c.requires.open }
