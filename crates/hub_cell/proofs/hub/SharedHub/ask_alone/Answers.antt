use Rattle.turn_cell.specs.Cells.{view_of, origin_of}
use Rattle.hub_cell.specs.Passes.{knows, config_of}
use Rattle.hub_cell.proofs.TurnLemmas.{may-turn, shared-turn}
use Rattle.hub_cell.proofs.KeptLemmas.{mark-config, mark-tells}
use Rattle.hub_cell.proofs.hub.SharedHub.ask_alone.Goals as goal

pub ask_there-requires-clause-stands : goal.ask_there-requires-clause-stands
ask_there-requires-clause-stands g c = (c.in-Ok.ensures.stands.0.0, mark-config c.in-Ok.turn.value (origin_of c.args.self.now.cell) c.in-Ok.ensures.stands.1)

pub ask_there-requires-clause-tells : goal.ask_there-requires-clause-tells
ask_there-requires-clause-tells g c = mark-tells c.in-Ok.turn.value (origin_of c.args.self.now.cell) c.in-Ok.ensures.stands.1

pub ask_there-requires-clause-may : goal.ask_there-requires-clause-may
ask_there-requires-clause-may g c =
    may-turn c.token_laws.ensures (config_of c.args.self.now) (knows c.args.pass.now) (view_of c.enter_with.new.pass) c.in-Ok.turn.ticket c.in-Ok.ensures.turn.1 c.in-Ok.ensures.seen.0 c.in-Ok.turn.value.core.value c.in-Ok.ensures.stands.0.0.core_stands
    (mark-config c.in-Ok.turn.value (origin_of c.args.self.now.cell) c.in-Ok.ensures.stands.1) c.args.pass.now.inner.exact c.in-Ok.ensures.seen.1 (g.Q.Asks.call c.args.question) c.requires.may

pub returns-in-Ok-clause-serves : goal.returns-in-Ok-clause-serves
returns-in-Ok-clause-serves g c =
    shared-turn c.token_laws.ensures (config_of c.args.self.now) (knows c.args.pass.now) (view_of c.enter_with.new.pass) c.in-Ok.turn.ticket c.in-Ok.ensures.turn.1 c.in-Ok.ensures.seen.0 c.in-Ok.turn.value.core.value c.in-Ok.ensures.stands.0.0.core_stands
    (mark-config c.in-Ok.turn.value (origin_of c.args.self.now.cell) c.in-Ok.ensures.stands.1) c.args.pass.now.inner.exact c.in-Ok.ensures.seen.1 (view_of c.ask_there.new.pass) (g.Q.Asks.call c.args.question) (g.Q.Asks.at c.args.question)
    (g.Q.Asks.reply c.ask_there.result) c.requires.may c.ask_there.ensures.serves
