use Rattle.std.proofs.Common.{ℕ, List, ◌++◌, append_assoc, append-nil, sym, ap, ◌∙◌}
use Rattle.http_frames.specs.Chunks.{joined}
use Rattle.loop_node.proofs.writing.joined.Goals as goal

pub loop-part-preserved : goal.loop-part-preserved
loop-part-preserved c = λ all holds.
    let before = c.loop-part.invariant all holds in
    let step = c.in-Some.ensures.steps before.0 before.1 in (
      step.0,
      step.2,
      before.2 ∙ ap (λ (ps : List (List ℕ)). c.loop-part.data.items ++ joined ps) step.1
          ∙ sym (append_assoc c.loop-part.data.items c.in-Some.part.now (joined step.0))
          ∙ ap (λ (t : List ℕ). t ++ joined step.0) (sym (c.in_ok-extend_from_slice.ensures.items)),
    )

pub returns : goal.returns
returns c = λ all holds.
    let before = c.loop-part.invariant all holds in
    let none = c.in-None.ensures.steps before.0 before.1 in
    c.from_vec.ensures ∙ sym (before.2 ∙ ap (λ (ps : List (List ℕ)). c.loop-part.data.items ++ joined ps) none.0 ∙ append-nil c.loop-part.data.items)
