use Rattle.std.proofs.Common.{subst}
use Rattle.std.specs.Prelude.{Option, Result}
use Rattle.conn_script.specs.declared.wants.ConnFault.{ConnFault}
use Rattle.conn_script.specs.declared.wants.Served.{Served}
use Rattle.hub_workers.specs.SharedClock.{not_asked}
use Rattle.hub_serving.specs.Tables.{IsServed, first_of}
use Rattle.hub_serving.proofs.seats.Seat.step.Goals as goal

pub advance-requires-clause-sits : goal.advance-requires-clause-sits
advance-requires-clause-sits g c = (
  first_of g.L.Line.view g.N.NodeLine.state g.C.Clock.view c.args.self.now,
  subst (λ (r : Option (Result Served ConnFault)). IsServed c.args.hub.now g.L.Line.view g.N.NodeLine.state g.N.NodeLine.gives g.N.NodeLine.asks g.C.Clock.gives g.C.Clock.view c.args.self.now r) c.in_default.is
      c.requires.seated.served,
)

pub returns-in-Some-clause-asked : goal.returns-in-Some-clause-asked
returns-in-Some-clause-asked g c = not_asked
