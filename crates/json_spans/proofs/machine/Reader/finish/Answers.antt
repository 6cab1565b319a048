use Rattle.std.proofs.Common.{sym, ap}
use Rattle.json_spans.specs.Machine.{as_result}
use Rattle.json_spans.proofs.Running.{finish-none, finish-deep}
use Rattle.json_spans.proofs.machine.Reader.finish.Goals as goal

pub returns-then-self-eq0-clause-exact : goal.returns-then-self-eq0-clause-exact
returns-then-self-eq0-clause-exact c = λ k.
    let r = c.args.self.now in
    ap as_result (sym (finish-none c.args.end r.naming r.brackets r.depth k c.if-self-eq0.true))

pub returns-clause-exact : goal.returns-clause-exact
returns-clause-exact c = λ k.
    let r = c.args.self.now in
    finish-deep c.args.end r.naming r.brackets r.depth k c.if-self-eq0.false
