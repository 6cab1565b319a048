use Rattle.std.proofs.Common.{◌∙◌, sym, arith}
use Rattle.std.proofs.lemmas.List.{take_all, length-drop}
use Rattle.loop_node.proofs.Texts.{from_first-at, from_first-none}
use Rattle.loop_node.proofs.paths.from_slash.Goals as goal

pub returns : goal.returns
returns c = sym (from_first-none 47 c.args.text.now (λ k below. c.loop-index.invariant k (omega arith)))

pub returns-then-byte-eq47 : goal.returns-then-byte-eq47
returns-then-byte-eq47 c =
    take_all _ _ (omega (arith, length-drop c.loop-index.index c.args.text.now))
    ∙ sym (from_first-at 47 c.args.text.now c.loop-index.index (omega arith) c.loop-index.invariant c.if-byte-eq47.true)
