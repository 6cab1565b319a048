use Rattle.std.proofs.Common.{◌∙◌}
use Rattle.std.proofs.lemmas.Result.{IfOk-weaker}
use Rattle.grid_log.proofs.telling.Teller.failed.Goals as goal

pub returns : goal.returns
returns c =
    IfOk-weaker c.end.result _ _ (λ bytes h.
    h ∙ (cc (
      c.in_ok-line.ensures.bytes,
      c.in_ok-line.ensures.form,
      c.in_ok-request_at.ensures.bytes,
      c.in_ok-request_at.ensures.form,
      c.in_ok-name_if.ensures.bytes,
      c.in_ok-name_if.ensures.form,
      c.in_ok-why.ensures.bytes,
      c.in_ok-why.ensures.form,
      c.in_ok-number_if.ensures.bytes,
      c.in_ok-number_if.ensures.form,
      c.since.ensures,
      c.failed_words-what.ensures,
    )))
    c.end.ensures
