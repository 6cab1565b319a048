use Rattle.std.proofs.Common.{◌≡◌, ℕ, subst}
use Rattle.std.specs.Prelude.{Some}
use Rattle.grid_types.specs.Calls.{Call, Reply}
use Rattle.hub_core.specs.declared.answers.Registering.{Registering}
use Rattle.hub_core.specs.Replies.{registering_reply}
use Rattle.hub_cell.specs.Passes.{knows, config_of}
use Rattle.hub_cell.specs.Shared.{SharedServes}
use Rattle.hub_clients.proofs.BeatLemmas.{listed-first, same-ended}
use Rattle.hub_clients.proofs.many.list_first.Goals as goal

pub returns-in-Ok-Registered-eq1 : goal.returns-in-Ok-Registered-eq1
returns-in-Ok-Registered-eq1 g c =
    let answered = subst (λ (a : Registering). SharedServes (config_of c.args.hub.now) (knows c.args.pass.now) (Call.register c.args.node) 0 (registering_reply a) (knows c.register.new.pass)) c.in-Ok-Registered-eq1.field-0-is
    c.in-Ok-Registered-eq1.ensures.serves in
    let one : c.in-Ok-Registered-eq1.field-0-0 ≡ 1 = c.in-Ok-Registered-eq1.field-0-0-test in
    let serves : SharedServes (config_of c.args.hub.now) (knows c.args.pass.now) (Call.register c.args.node) 0 (Some (Reply.registered 1)) (knows c.register.new.pass) =
    subst (λ (n : ℕ). SharedServes (config_of c.args.hub.now) (knows c.args.pass.now) (Call.register c.args.node) 0 (Some (Reply.registered n)) (knows c.register.new.pass)) one answered in (
      c.register.ensures.own,
      listed-first (config_of c.args.hub.now) (knows c.args.pass.now) (knows c.register.new.pass) c.args.node 0 serves c.requires.2,
      same-ended (config_of c.args.hub.now) (knows c.args.pass.now) (knows c.register.new.pass) (Call.register c.args.node) 0 (Some (Reply.registered 1)) serves,
    )
