use Rattle.std.proofs.Common.{◌≡◌, ◌-◌, ◌∙◌, sym, ap}
use Rattle.json_spans.specs.Machine.{as_result, stopped}
use Rattle.json_spans.specs.Table.{back}
use Rattle.json_spans.proofs.Running.{ends-number, ends-other, ends-deep}
use Rattle.json_spans.proofs.machine.Reader.end.Goals as goal
use Rattle.json_spans.proofs.machine.Reader.end.Goals.{else-self-eq0-via-then-self-eq0+else-is_number_end, else-self-eq0-via-else-self-eq0}

pub returns-then-is_number_end-clause-exact : goal.returns-then-is_number_end-clause-exact
returns-then-is_number_end-clause-exact c =
    let r = c.args.self.now in
    ap as_result (sym (ends-number c.args.at r.mode r.brackets r.depth c.if-self-eq0.true (sym c.is_number_end.ensures ∙ c.if-is_number_end.true)))

pub returns-else-self-eq0-clause-exact : goal.returns-else-self-eq0-clause-exact
returns-else-self-eq0-clause-exact c =
    let r = c.args.self.now in
    let p : c.saturating_sub.result ≡ c.args.at - back r.mode = c.saturating_sub.ensures ∙ ap (λ b. c.args.at - b) c.back.ensures in
    ap as_result (ap stopped p ∙ sym (
    elim c.else-self-eq0.branch [
      | else-self-eq0-via-then-self-eq0+else-is_number_end w ↦ ends-other c.args.at r.mode r.brackets r.depth w.if-self-eq0.true (sym w.is_number_end.ensures ∙ w.if-is_number_end.false)
      | else-self-eq0-via-else-self-eq0 w ↦ ends-deep c.args.at r.mode r.brackets r.depth w.if-self-eq0.false
    ]))
