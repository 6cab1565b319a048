use Rattle.std.proofs.Common.{◌+◌, sym, ap, subst}
use Rattle.json_spans.specs.Machine.{Outcome, Turns, stack_of, as_result}
use Rattle.json_spans.proofs.Running.{close-none, close-some}
use Rattle.json_spans.proofs.machine.Reader.close.Goals as goal

pub returns-then-self-eq0-clause-exact : goal.returns-then-self-eq0-clause-exact
returns-then-self-eq0-clause-exact c = λ k.
    let r = c.args.self.now in
    ap as_result (sym (close-none c.args.at (c.args.at + 1) r.naming r.brackets r.depth k c.if-self-eq0.true))

pub returns-clause-exact : goal.returns-clause-exact
returns-clause-exact c = λ k.
    let r = c.args.self.now in
    let new = c.finish.new.self in
    subst (λ (o : Outcome). Turns o c.finish.result (k new.mode new.naming (stack_of new.brackets new.depth))) (sym (close-some c.args.at (c.args.at + 1) r.naming r.brackets r.depth k c.if-self-eq0.false)) (c.finish.ensures.exact k)
