use Rattle.std.proofs.Common.{sym, ◌∙◌}
use Rattle.turn_cell.specs.Cells.{view_of, origin_of}
use Rattle.hub_cell.specs.Passes.{knows, config_of}
use Rattle.hub_cell.proofs.KeptLemmas.{mark-config, mark-tells}
use Rattle.hub_cell.proofs.TurnLemmas.{looks-turn, none-made}
use Rattle.hub_cell.proofs.hub.SharedHub.kept_alone.Goals as goal

pub kept_there-kept-requires-clause-stands : goal.kept_there-kept-requires-clause-stands
kept_there-kept-requires-clause-stands g c = (c.in-Ok.ensures.stands.0.0, mark-config c.in-Ok.turn.value (origin_of c.args.self.now.cell) c.in-Ok.ensures.stands.1)

pub kept_there-kept-requires-clause-tells : goal.kept_there-kept-requires-clause-tells
kept_there-kept-requires-clause-tells g c = mark-tells c.in-Ok.turn.value (origin_of c.args.self.now.cell) c.in-Ok.ensures.stands.1

pub returns-in-Ok-kept-clause-turn : goal.returns-in-Ok-kept-clause-turn
returns-in-Ok-kept-clause-turn g c =
    looks-turn c.token_laws.ensures (config_of c.args.self.now) (knows c.args.pass.now) (view_of c.enter.new.pass) c.in-Ok.turn.ticket c.in-Ok.ensures.turn.1 c.in-Ok.ensures.seen.0 c.in-Ok.turn.value.core.value c.in-Ok.ensures.stands.0.0.core_stands
    (mark-config c.in-Ok.turn.value (origin_of c.args.self.now.cell) c.in-Ok.ensures.stands.1) c.args.pass.now.inner.exact c.in-Ok.ensures.seen.1 (view_of c.kept_there-kept.new.pass) (c.kept_there-kept.ensures.view.0 ∙ sym (none-made (view_of c.enter.new.pass))) c.kept_there-kept.ensures.view.1

pub returns-in-Err-kept-clause-fault : goal.returns-in-Err-kept-clause-fault
returns-in-Err-kept-clause-fault g c =
    looks-turn c.token_laws.ensures (config_of c.args.self.now) (knows c.args.pass.now) (view_of c.enter.new.pass) c.in-Ok.turn.ticket c.in-Ok.ensures.turn.1 c.in-Ok.ensures.seen.0 c.in-Ok.turn.value.core.value c.in-Ok.ensures.stands.0.0.core_stands
    (mark-config c.in-Ok.turn.value (origin_of c.args.self.now.cell) c.in-Ok.ensures.stands.1) c.args.pass.now.inner.exact c.in-Ok.ensures.seen.1 (view_of c.kept_there-kept.new.pass) (c.kept_there-kept.ensures.view.0 ∙ sym (none-made (view_of c.enter.new.pass))) c.kept_there-kept.ensures.view.1
