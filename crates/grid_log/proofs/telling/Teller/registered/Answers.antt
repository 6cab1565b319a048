use Rattle.std.proofs.Common.{◌∙◌}
use Rattle.std.proofs.lemmas.Result.{IfOk-weaker}
use Rattle.grid_log.proofs.telling.Teller.registered.Goals as goal

pub returns : goal.returns
returns c =
    IfOk-weaker c.end.result _ _ (λ bytes h.
    h ∙ (cc (
      c.in_ok-line.ensures.bytes,
      c.in_ok-line.ensures.form,
      c.in_ok-number.ensures.bytes,
      c.in_ok-number.ensures.form,
      c.in_ok-name.ensures.bytes,
      c.in_ok-name.ensures.form,
      c.in_ok-name-2.ensures.bytes,
      c.in_ok-name-2.ensures.form,
      c.in_ok-number-2.ensures.bytes,
      c.in_ok-number-2.ensures.form,
      c.from.ensures,
      c.as_str.ensures.bytes,
      c.address_text.ensures,
      c.items.ensures,
      c.slots_in.ensures,
    )))
    c.end.ensures
