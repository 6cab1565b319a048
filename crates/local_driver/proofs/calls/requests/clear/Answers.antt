use Rattle.std.proofs.Common.{refl, inr}
use Rattle.grid_types.specs.Calls.{Call}
use Rattle.conn_script.specs.declared.wants.HubAnswer.TheVariants as answers
use Rattle.local_driver.proofs.CallLemmas.{on_roomed, on_not_roomed}
use Rattle.local_driver.proofs.calls.requests.clear.Goals as goal

pub returns-then-has_room : goal.returns-then-has_room
returns-then-has_room g c =
    on_roomed g.H.OwnHub.own c.args.hub.now c.has_room.new.self c.clear.new.self (Call.clear) c.args.at.0 (answers.Clear c.in_ok-clear.field-0) c.has_room.result c.if-has_room.true c.has_room.ensures
    refl tt refl c.in_ok-clear.ensures

pub returns : goal.returns
returns g c =
    on_not_roomed g.H.OwnHub.own c.args.hub.now c.has_room.new.self (Call.clear) c.args.at.0 answers.NoRoom c.has_room.result c.if-has_room.false c.has_room.ensures tt tt refl refl (inr (refl, refl))
