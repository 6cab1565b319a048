use Rattle.std.proofs.Common.{◌≡◌, ℕ, List, ◌++◌}
use Rattle.http_frames.specs.Chunks.{joined}
use Rattle.http_frames.specs.FrameSteps.{HoldsParts}
use Rattle.loop_node.proofs.writing.joined.Given as goal

abbrev pub invariant-loop-part : goal.invariant-loop-part
invariant-loop-part l =
    (all : List (List ℕ)) → HoldsParts l.fn.parts all
    → (more : List (List ℕ)) × HoldsParts l.part-iterator more × (joined all ≡ l.data.items ++ joined more)
