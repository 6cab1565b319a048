use Rattle.std.proofs.Common.{rules}
use Rattle.loop_node.proofs.TurnLemmas.{over_new, at_last, on_err}
use Rattle.loop_node.proofs.serving.serve_node.Goals as goal

pub turns-init : goal.turns-init
turns-init g c = over_new c.args.node.now _ c.new-incoming.result c.new-incoming.ensures.bytes c.new-incoming.ensures.left c.new-incoming.ensures.frames c.new-incoming.ensures.told

pub returns-then-not-goes-clause-ok : goal.returns-then-not-goes-clause-ok
returns-then-not-goes-clause-ok g c =
    at_last c.in_ok-goes.goes c.args.node.now c.turn.new.node _ _ c.turn.new.incoming (search rules) (c.in_ok-goes.ensures.ok c.args.node.now _ c.turns.invariant)

pub returns-in_err-goes-clause-broken : goal.returns-in_err-goes-clause-broken
returns-in_err-goes-clause-broken g c = on_err c.from_residual.result (c.in_err-goes.ensures.broken c.args.node.now _ c.turns.invariant)
