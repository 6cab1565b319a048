use Rattle.std.proofs.Common.{◌≡◌, List, refl, subst, inl, Ok}
use Rattle.std.specs.Prelude.{ℕ}
use Rattle.router_core.specs.declared.routed.Routed.TheVariants as routed
use Rattle.router_core.specs.declared.routed.RouteFault.TheVariants as fault
use Rattle.router_core.specs.Routes as routes
use Rattle.conn_script.specs.declared.calling.Asked.TheVariants as asked
use Rattle.conn_script.specs.declared.wants.HubCall.TheVariants as calls
use Rattle.conn_script.specs.OneCall.{NodeCall, NodeCallLacks, Beats, BeatsLack, Registers, RegisterLacks}
use Rattle.conn_script.specs.DeleteSession.{DeleteSession, DeleteLacks}
use Rattle.conn_script.specs.Relay.{Relay, RelayLacks, relayed}
use Rattle.conn_script.specs.NewSession.{NewSession, EnqueueLacks}
use Rattle.conn_script.specs.Routing.{node_call}
use Rattle.conn_script.specs.Script.{before_all}
use Rattle.conn_script.proofs.RouteLemmas.{by_route, path_asked, none_asked, route_told_is, no_route_is, whole_of}
use Rattle.conn_script.proofs.routing.first_turn.Goals as goal

pub returns-in-Ok-Status-clause-turns : goal.returns-in-Ok-Status-clause-turns
returns-in-Ok-Status-clause-turns c = λ f parts.
    let same : c.in-Ok-Status.field-0 ≡ routed.Status = cc in
    let is = route_told_is c.args.whole f c.in-Ok-Status.field-0 (routed.Status) parts c.in-Ok-Status.ensures.ok same in
    rw c.ask.ensures (path_asked f (Ok routes.status) calls.View asked.Status c.args.close is refl refl refl (λ steps response p. p) (λ steps p. p))

pub returns-in-Ok-Queue-clause-turns : goal.returns-in-Ok-Queue-clause-turns
returns-in-Ok-Queue-clause-turns c = λ f parts.
    let same : c.in-Ok-Queue.field-0 ≡ routed.Queue = cc in
    let is = route_told_is c.args.whole f c.in-Ok-Queue.field-0 (routed.Queue) parts c.in-Ok-Queue.ensures.ok same in
    rw c.ask-in-Ok-Queue.ensures (path_asked f (Ok routes.queue) calls.View asked.Queue c.args.close is refl refl refl (λ steps response p. p) (λ steps p. p))

pub returns-in-Ok-ClearQueue-clause-turns : goal.returns-in-Ok-ClearQueue-clause-turns
returns-in-Ok-ClearQueue-clause-turns c = λ f parts.
    let same : c.in-Ok-ClearQueue.field-0 ≡ routed.ClearQueue = cc in
    let is = route_told_is c.args.whole f c.in-Ok-ClearQueue.field-0 (routed.ClearQueue) parts c.in-Ok-ClearQueue.ensures.ok same in
    rw c.ask-in-Ok-ClearQueue.ensures (path_asked f (Ok routes.clear_queue) calls.Clear asked.Clear c.args.close is refl refl refl (λ steps response p. p) (λ steps p. p))

pub returns-in-Ok-Remove-clause-turns : goal.returns-in-Ok-Remove-clause-turns
returns-in-Ok-Remove-clause-turns c = λ f parts.
    let same : c.in-Ok-Remove.field-0 ≡ routed.Remove c.in-Ok-Remove.id = cc in
    let is = route_told_is c.args.whole f c.in-Ok-Remove.field-0 (routed.Remove c.in-Ok-Remove.id) parts c.in-Ok-Remove.ensures.ok same in
    by_route f (Ok (routes.remove c.in-Ok-Remove.id.now)) (NodeCall (node_call asked.Remove) c.in-Ok-Remove.id.now) (NodeCallLacks (node_call asked.Remove) c.in-Ok-Remove.id.now) c.args.close
    c.ask_node.result is (λ steps response p. p) (λ steps p. p) (c.ask_node.ensures.turns f)

pub returns-in-Ok-Drain-clause-turns : goal.returns-in-Ok-Drain-clause-turns
returns-in-Ok-Drain-clause-turns c = λ f parts.
    let same : c.in-Ok-Drain.field-0 ≡ routed.Drain c.in-Ok-Drain.id = cc in
    let is = route_told_is c.args.whole f c.in-Ok-Drain.field-0 (routed.Drain c.in-Ok-Drain.id) parts c.in-Ok-Drain.ensures.ok same in
    by_route f (Ok (routes.drain c.in-Ok-Drain.id.now)) (NodeCall (node_call asked.Drain) c.in-Ok-Drain.id.now) (NodeCallLacks (node_call asked.Drain) c.in-Ok-Drain.id.now) c.args.close
    c.ask_node-in-Ok-Drain.result is (λ steps response p. p) (λ steps p. p) (c.ask_node-in-Ok-Drain.ensures.turns f)

pub returns-in-Ok-Beat-clause-turns : goal.returns-in-Ok-Beat-clause-turns
returns-in-Ok-Beat-clause-turns c = λ f parts.
    let same : c.in-Ok-Beat.field-0 ≡ routed.Beat c.in-Ok-Beat.id = cc in
    let is = route_told_is c.args.whole f c.in-Ok-Beat.field-0 (routed.Beat c.in-Ok-Beat.id) parts c.in-Ok-Beat.ensures.ok same in
    let id = c.in-Ok-Beat.id.now in
    let body = whole_of c.args.whole f parts in
    by_route f (Ok (routes.beat id)) (Beats id c.args.whole.body.now) (BeatsLack id c.args.whole.body.now) c.args.close c.beat.result is
    (λ steps response p. subst (λ (b : List ℕ). Beats id b steps response) body p) (λ steps p. subst (λ (b : List ℕ). BeatsLack id b steps) body p) (c.beat.ensures.turns f)

pub returns-in-Ok-Register-clause-turns : goal.returns-in-Ok-Register-clause-turns
returns-in-Ok-Register-clause-turns c = λ f parts.
    let same : c.in-Ok-Register.field-0 ≡ routed.Register = cc in
    let is = route_told_is c.args.whole f c.in-Ok-Register.field-0 (routed.Register) parts c.in-Ok-Register.ensures.ok same in
    let body = whole_of c.args.whole f parts in
    by_route f (Ok routes.register) (Registers c.args.whole.body.now) (RegisterLacks c.args.whole.body.now) c.args.close c.register.result is
    (λ steps response p. subst (λ (b : List ℕ). Registers b steps response) body p) (λ steps p. subst (λ (b : List ℕ). RegisterLacks b steps) body p) (c.register.ensures.turns f)

pub returns-in-Ok-NewSession-clause-turns : goal.returns-in-Ok-NewSession-clause-turns
returns-in-Ok-NewSession-clause-turns c = λ f parts.
    let same : c.in-Ok-NewSession.field-0 ≡ routed.NewSession = cc in
    let is = route_told_is c.args.whole f c.in-Ok-NewSession.field-0 (routed.NewSession) parts c.in-Ok-NewSession.ensures.ok same in
    let body = whole_of c.args.whole f parts in
    by_route f (Ok routes.new_session) (NewSession c.args.whole.body.now) (EnqueueLacks c.args.whole.body.now) c.args.close c.create.result is
    (λ steps response p. subst (λ (b : List ℕ). NewSession b steps response) body p) (λ steps p. subst (λ (b : List ℕ). EnqueueLacks b steps) body p) (c.create.ensures.turns f)

pub returns-in-Ok-DeleteSession-clause-turns : goal.returns-in-Ok-DeleteSession-clause-turns
returns-in-Ok-DeleteSession-clause-turns c = λ f parts.
    let same : c.in-Ok-DeleteSession.field-0 ≡ routed.DeleteSession c.in-Ok-DeleteSession.id = cc in
    let is = route_told_is c.args.whole f c.in-Ok-DeleteSession.field-0 (routed.DeleteSession c.in-Ok-DeleteSession.id) parts c.in-Ok-DeleteSession.ensures.ok same in
    by_route f (Ok (routes.delete_session c.in-Ok-DeleteSession.id.now)) (DeleteSession c.in-Ok-DeleteSession.id.now) (DeleteLacks c.in-Ok-DeleteSession.id.now) c.args.close
    c.delete.result is (λ steps response p. p) (λ steps p. p) (c.delete.ensures.turns f)

pub returns-in-Ok-Relay-clause-turns : goal.returns-in-Ok-Relay-clause-turns
returns-in-Ok-Relay-clause-turns c = λ f parts.
    let same : c.in-Ok-Relay.field-0 ≡ routed.Relay c.in-Ok-Relay.id c.in-Ok-Relay.target = cc in
    let is = route_told_is c.args.whole f c.in-Ok-Relay.field-0 (routed.Relay c.in-Ok-Relay.id c.in-Ok-Relay.target) parts c.in-Ok-Relay.ensures.ok same in
    let ask = relayed f c.in-Ok-Relay.target.now in
    by_route f (Ok (routes.relay c.in-Ok-Relay.id.now c.in-Ok-Relay.target.now)) (Relay ask c.in-Ok-Relay.id.now) (RelayLacks ask c.in-Ok-Relay.id.now) c.args.close
    c.relay.result is (λ steps response p. p) (λ steps p. p) (c.relay.ensures.turns f)

pub returns-in-Err-UnknownCommand-clause-turns : goal.returns-in-Err-UnknownCommand-clause-turns
returns-in-Err-UnknownCommand-clause-turns c = λ f parts.
    let same : c.in-Err-UnknownCommand.field-0 ≡ fault.UnknownCommand = cc in
    let is = no_route_is c.args.whole f c.in-Err-UnknownCommand.field-0 fault.UnknownCommand parts c.in-Err-UnknownCommand.ensures.fault same in
    rw c.respond.ensures.turn (none_asked f fault.UnknownCommand c.args.close c.unknown_command.result _ _ is (refl, refl) c.unknown_command.ensures)

pub returns-in-Err-UnknownMethod-clause-turns : goal.returns-in-Err-UnknownMethod-clause-turns
returns-in-Err-UnknownMethod-clause-turns c = λ f parts.
    let same : c.in-Err-UnknownMethod.field-0 ≡ fault.UnknownMethod = cc in
    let is = no_route_is c.args.whole f c.in-Err-UnknownMethod.field-0 fault.UnknownMethod parts c.in-Err-UnknownMethod.ensures.fault same in
    rw c.respond-in-Err-UnknownMethod.ensures.turn (none_asked f fault.UnknownMethod c.args.close c.unknown_method.result _ _ is (refl, refl) c.unknown_method.ensures)

pub returns-in-Err-Memory-clause-turns : goal.returns-in-Err-Memory-clause-turns
returns-in-Err-Memory-clause-turns c = λ f parts.
    inl before_all
