use Rattle.std.proofs.Common.{refl}
use Rattle.grid_types.specs.Calls.{Call}
use Rattle.conn_script.specs.declared.wants.HubAnswer.TheVariants as answers
use Rattle.hub_core.specs.declared.answers.Enqueued.TheVariants as enqueued
use Rattle.hub_core.specs.HubView.{past}
use Rattle.local_driver.proofs.CallLemmas.{on_roomed, on_not_roomed, lacks}
use Rattle.local_driver.proofs.calls.requests.enqueue.Goals as goal

pub returns-then-has_room : goal.returns-then-has_room
returns-then-has_room g c =
    on_roomed g.H.OwnHub.own c.args.hub.now c.has_room.new.self c.enqueue.new.self (Call.enqueue c.args.choices) c.args.at.0 (answers.Enqueue c.in_ok-enqueue.field-0) c.has_room.result c.if-has_room.true
    c.has_room.ensures refl tt refl c.in_ok-enqueue.ensures

pub returns : goal.returns
returns g c =
    on_not_roomed g.H.OwnHub.own c.args.hub.now c.has_room.new.self (Call.enqueue c.args.choices) c.args.at.0 (answers.Enqueue enqueued.Memory) c.has_room.result c.if-has_room.false
    c.has_room.ensures refl tt refl refl (lacks (g.H.OwnHub.own.shown c.args.hub.now).config (past (g.H.OwnHub.own.shown c.args.hub.now)) (Call.enqueue c.args.choices) c.args.at.0 (λ reply. refl))
