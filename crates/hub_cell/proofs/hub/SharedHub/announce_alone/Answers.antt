use Rattle.turn_cell.specs.Cells.{view_of, origin_of}
use Rattle.hub_cell.specs.Passes.{knows, config_of}
use Rattle.hub_cell.proofs.TurnLemmas.{may-turn, shared-turn, lacks-turn}
use Rattle.hub_cell.proofs.KeptLemmas.{mark-config, mark-tells}
use Rattle.hub_cell.proofs.hub.SharedHub.announce_alone.Goals as goal

pub announce_there-requires-clause-stands : goal.announce_there-requires-clause-stands
announce_there-requires-clause-stands g c = (c.in-Ok.ensures.stands.0.0, mark-config c.in-Ok.turn.value (origin_of c.args.self.now.cell) c.in-Ok.ensures.stands.1)

pub announce_there-requires-clause-tells : goal.announce_there-requires-clause-tells
announce_there-requires-clause-tells g c = mark-tells c.in-Ok.turn.value (origin_of c.args.self.now.cell) c.in-Ok.ensures.stands.1

pub announce_there-requires-clause-may : goal.announce_there-requires-clause-may
announce_there-requires-clause-may g c =
    may-turn c.token_laws.ensures (config_of c.args.self.now) (knows c.args.pass.now) (view_of c.enter.new.pass) c.in-Ok.turn.ticket c.in-Ok.ensures.turn.1 c.in-Ok.ensures.seen.0 c.in-Ok.turn.value.core.value c.in-Ok.ensures.stands.0.0.core_stands
    (mark-config c.in-Ok.turn.value (origin_of c.args.self.now.cell) c.in-Ok.ensures.stands.1) c.args.pass.now.inner.exact c.in-Ok.ensures.seen.1 (g.Q.Announces.call c.args.question) c.requires.may

pub returns-in-Ok-announce_there-clause-serves : goal.returns-in-Ok-announce_there-clause-serves
returns-in-Ok-announce_there-clause-serves g c =
    shared-turn c.token_laws.ensures (config_of c.args.self.now) (knows c.args.pass.now) (view_of c.enter.new.pass) c.in-Ok.turn.ticket c.in-Ok.ensures.turn.1 c.in-Ok.ensures.seen.0 c.in-Ok.turn.value.core.value c.in-Ok.ensures.stands.0.0.core_stands
    (mark-config c.in-Ok.turn.value (origin_of c.args.self.now.cell) c.in-Ok.ensures.stands.1) c.args.pass.now.inner.exact c.in-Ok.ensures.seen.1 (view_of c.announce_there.new.pass) (g.Q.Announces.call c.args.question) (g.Q.Announces.at c.args.question)
    (g.Q.Announces.reply c.in-Ok-announce_there.answer) c.requires.may c.in-Ok-announce_there.ensures.serves

pub returns-in-Err-announce_there-clause-unanswered : goal.returns-in-Err-announce_there-clause-unanswered
returns-in-Err-announce_there-clause-unanswered g c = (
  c.in-Err-announce_there.ensures.lacks.0,
  lacks-turn c.token_laws.ensures (config_of c.args.self.now) (knows c.args.pass.now) (view_of c.enter.new.pass) c.in-Ok.turn.ticket c.in-Ok.ensures.turn.1 c.in-Ok.ensures.seen.0 c.in-Ok.turn.value.core.value c.in-Ok.ensures.stands.0.0.core_stands
      (mark-config c.in-Ok.turn.value (origin_of c.args.self.now.cell) c.in-Ok.ensures.stands.1) c.args.pass.now.inner.exact c.in-Ok.ensures.seen.1 (view_of c.announce_there.new.pass) (g.Q.Announces.call c.args.question) (g.Q.Announces.lacks c.args.question) c.requires.may
      c.in-Err-announce_there.ensures.lacks.1,
)
