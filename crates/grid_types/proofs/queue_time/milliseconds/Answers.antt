use Rattle.std.proofs.Common.{◌≡◌, ◌∙◌, true, sym, ap}
use Rattle.std.specs.Char.{is_ascii_digit}
use Rattle.std.specs.List.{list_all}
use Rattle.grid_types.proofs.DigitLemmas.{parsed-time, unparsed-time}
use Rattle.grid_types.proofs.queue_time.milliseconds.Goals as goal

pub returns-then-number-le-MOST_QUEUE_TIME_MS : goal.returns-then-number-le-MOST_QUEUE_TIME_MS
returns-then-number-le-MOST_QUEUE_TIME_MS c =
    let digits : list_all is_ascii_digit c.args.text.now ≡ true = ap (list_all is_ascii_digit) (sym c.as_bytes.ensures.value) ∙ sym c.if-not-are_digits.ensures in
    parsed-time c.args.text.now c.parse.result c.in-Ok.number digits c.in-Ok.is c.parse.ensures.value.0
    c.if-number-ge-LEAST_QUEUE_TIME_MS.true c.if-number-le-MOST_QUEUE_TIME_MS.true

pub returns-in-Err : goal.returns-in-Err
returns-in-Err c =
    let digits : list_all is_ascii_digit c.args.text.now ≡ true = ap (list_all is_ascii_digit) (sym c.as_bytes.ensures.value) ∙ sym c.if-not-are_digits.ensures in
    unparsed-time c.args.text.now c.parse.result _ digits c.in-Err.is c.parse.ensures.value.0
