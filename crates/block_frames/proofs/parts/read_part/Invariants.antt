use Rattle.std.proofs.Common.{◌-◌, length}
use Rattle.block_frames.specs.Inputs.{ReadsOn}
use Rattle.block_frames.proofs.parts.read_part.Given as goal

abbrev pub invariant-pieces : goal.invariant-pieces
invariant-pieces g l =
    ReadsOn l.wanted l.initial.left l.left l.bytes.items
    (g.S.Source.view l.initial.input)
    (g.S.Source.view l.input)

abbrev pub decreases-pieces : goal.decreases-pieces
decreases-pieces g l = l.wanted - length l.bytes.items
