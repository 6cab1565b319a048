use Rattle.std.proofs.Common.{rules, ◌≡◌}
use Rattle.grid_types.specs.Calls.{Call}
use Rattle.hub_cell.specs.declared.hub.announcing.Unanswered.TheVariants as unanswered
use Rattle.hub_cell.specs.Passes.{knows, config_of}
use Rattle.hub_cell.proofs.TurnLemmas.{lacks-serves, memory-of}
use Rattle.hub_cell.proofs.hub.SharedHub.bind.Goals as goal

pub returns-in-Err-Memory-clause-serves : goal.returns-in-Err-Memory-clause-serves
returns-in-Err-Memory-clause-serves g c =
    let e : c.in-Err-Memory.field-0 ≡ unanswered.Memory c.in-Err-Memory.question = search rules in
    lacks-serves c.legal_is_safe.ensures (config_of c.args.self.now) (knows c.args.pass.now) (knows c.announce-asked.new.pass) (Call.bind c.args.reservation c.args.session c.args.caps) c.args.at.0
    (memory-of c.args.self.now _ _ _ _ _ c.in-Err-Memory.field-0 c.in-Err-Memory.question e c.in-Err-Memory.ensures.unanswered)
