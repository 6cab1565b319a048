use Rattle.std.proofs.Common.{refl}
use Rattle.grid_types.specs.Calls.{Call}
use Rattle.conn_script.specs.declared.wants.HubAnswer.TheVariants as answers
use Rattle.hub_core.specs.declared.answers.Registering.TheVariants as registering
use Rattle.hub_core.specs.HubView.{past}
use Rattle.local_driver.proofs.CallLemmas.{on_roomed, on_not_roomed, lacks, may_roomed}
use Rattle.local_driver.proofs.calls.nodes.register.Goals as goal

pub register-requires-clause-may : goal.register-requires-clause-may
register-requires-clause-may g c = may_roomed (g.H.OwnHub.own.shown c.args.hub.now) (g.H.OwnHub.own.shown c.has_room.new.self) (Call.register c.args.node) c.has_room.result c.if-has_room.true c.has_room.ensures.room c.requires.may

pub returns-then-has_room : goal.returns-then-has_room
returns-then-has_room g c =
    on_roomed g.H.OwnHub.own c.args.hub.now c.has_room.new.self c.register.new.self (Call.register c.args.node) c.args.at.0 (answers.Register c.in_ok-register.field-0) c.has_room.result c.if-has_room.true
    c.has_room.ensures refl c.in_ok-register.ensures.back refl c.in_ok-register.ensures.answers

pub returns : goal.returns
returns g c =
    on_not_roomed g.H.OwnHub.own c.args.hub.now c.has_room.new.self (Call.register c.args.node) c.args.at.0 (answers.Register (registering.Memory c.args.node)) c.has_room.result c.if-has_room.false
    c.has_room.ensures refl refl refl refl (lacks (g.H.OwnHub.own.shown c.args.hub.now).config (past (g.H.OwnHub.own.shown c.args.hub.now)) (Call.register c.args.node) c.args.at.0 (λ reply. refl))
