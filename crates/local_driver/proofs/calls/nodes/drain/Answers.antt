use Rattle.std.proofs.Common.{refl, inr}
use Rattle.grid_types.specs.Calls.{Call}
use Rattle.conn_script.specs.declared.wants.HubAnswer.TheVariants as answers
use Rattle.local_driver.proofs.CallLemmas.{on_roomed, on_not_roomed}
use Rattle.local_driver.proofs.calls.nodes.drain.Goals as goal

pub returns-then-has_room : goal.returns-then-has_room
returns-then-has_room g c =
    on_roomed g.H.OwnHub.own c.args.hub.now c.has_room.new.self c.drain.new.self (Call.drain c.args.node) c.args.at.0 (answers.Drain c.in_ok-drain.field-0) c.has_room.result c.if-has_room.true c.has_room.ensures
    refl tt refl c.in_ok-drain.ensures

pub returns : goal.returns
returns g c =
    on_not_roomed g.H.OwnHub.own c.args.hub.now c.has_room.new.self (Call.drain c.args.node) c.args.at.0 answers.NoRoom c.has_room.result c.if-has_room.false c.has_room.ensures tt tt refl refl (inr (refl, refl))
