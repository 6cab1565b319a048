use Rattle.std.proofs.Common.{◌≡◌, ◌+◌, slice_set, arith, sym, ap, ◌∙◌}
use Rattle.json_spans.specs.Machine.{as_result, first_of, stack_of}
use Rattle.json_spans.proofs.Running.{opened, not_opened}
use Rattle.json_spans.proofs.machine.Reader.open.Goals as goal
use Rattle.json_spans.proofs.machine.Reader.open.Goals.{then-object, else-object}

pub returns-then-self-eq-MAX_DEPTH-clause-exact : goal.returns-then-self-eq-MAX_DEPTH-clause-exact
returns-then-self-eq-MAX_DEPTH-clause-exact c = λ k.
    let r = c.args.self.now in
    ap as_result (sym (not_opened c.args.at (c.args.at + 1) r.naming r.brackets r.depth c.args.object k c.if-self-eq-MAX_DEPTH.true))

pub returns-clause-exact : goal.returns-clause-exact
returns-clause-exact c = λ k.
    let r = c.args.self.now in
    let first : first_of c.args.object ≡ c.if-object.self = elim c.if-object.branch [
      | then-object w ↦ ap first_of w.if-object.true ∙ sym w.self-is
      | else-object w ↦ ap first_of w.if-object.false ∙ sym w.self-is
    ] in
    opened c.args.at (c.args.at + 1) r.naming r.brackets r.depth c.args.object k (omega (arith, r.deep, c.if-self-eq-MAX_DEPTH.false)) (omega (arith, r.room, r.deep, c.if-self-eq-MAX_DEPTH.false))
    ∙ ap (λ m. k m r.naming (stack_of (slice_set r.brackets r.depth c.args.object) (r.depth + 1))) first
