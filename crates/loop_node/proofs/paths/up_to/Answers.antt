use Rattle.std.proofs.Common.{sym, arith}
use Rattle.loop_node.proofs.Texts.{up_to-at, up_to-none}
use Rattle.loop_node.proofs.paths.up_to.Goals as goal

pub returns : goal.returns
returns c = sym (up_to-none c.args.stop c.args.text.now (λ k below. c.loop-index.invariant k (omega arith)))

pub returns-then-byte-stop : goal.returns-then-byte-stop
returns-then-byte-stop c = sym (up_to-at c.args.stop c.args.text.now c.loop-index.index (omega arith) c.loop-index.invariant c.if-byte-stop.true)
