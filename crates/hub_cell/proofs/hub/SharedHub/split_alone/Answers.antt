use Rattle.turn_cell.specs.Cells.{view_of, origin_of}
use Rattle.hub_cell.specs.Passes.{knows, config_of}
use Rattle.hub_cell.proofs.TurnLemmas.{looks-turn}
use Rattle.hub_cell.proofs.KeptLemmas.{mark-config, mark-tells}
use Rattle.hub_cell.proofs.hub.SharedHub.split_alone.Goals as goal

pub split_there-requires-clause-stands : goal.split_there-requires-clause-stands
split_there-requires-clause-stands g c = (c.in-Ok.ensures.stands.0.0, mark-config c.in-Ok.turn.value (origin_of c.args.self.now.cell) c.in-Ok.ensures.stands.1)

pub split_there-requires-clause-tells : goal.split_there-requires-clause-tells
split_there-requires-clause-tells g c = mark-tells c.in-Ok.turn.value (origin_of c.args.self.now.cell) c.in-Ok.ensures.stands.1

pub returns-in-Ok-split_there-clause-turn : goal.returns-in-Ok-split_there-clause-turn
returns-in-Ok-split_there-clause-turn g c =
    looks-turn c.token_laws.ensures (config_of c.args.self.now) (knows c.args.pass.now) (view_of c.enter.new.pass) c.in-Ok.turn.ticket c.in-Ok.ensures.turn.1 c.in-Ok.ensures.seen.0 c.in-Ok.turn.value.core.value c.in-Ok.ensures.stands.0.0.core_stands
    (mark-config c.in-Ok.turn.value (origin_of c.args.self.now.cell) c.in-Ok.ensures.stands.1) c.args.pass.now.inner.exact c.in-Ok.ensures.seen.1 (view_of c.split_there.new.pass) c.split_there.ensures.view.0 c.split_there.ensures.view.1

pub returns-in-Err-split_there-clause-fault : goal.returns-in-Err-split_there-clause-fault
returns-in-Err-split_there-clause-fault g c =
    looks-turn c.token_laws.ensures (config_of c.args.self.now) (knows c.args.pass.now) (view_of c.enter.new.pass) c.in-Ok.turn.ticket c.in-Ok.ensures.turn.1 c.in-Ok.ensures.seen.0 c.in-Ok.turn.value.core.value c.in-Ok.ensures.stands.0.0.core_stands
    (mark-config c.in-Ok.turn.value (origin_of c.args.self.now.cell) c.in-Ok.ensures.stands.1) c.args.pass.now.inner.exact c.in-Ok.ensures.seen.1 (view_of c.split_there.new.pass) c.split_there.ensures.view.0 c.split_there.ensures.view.1
