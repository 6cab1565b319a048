use Rattle.std.proofs.Common.{get_or, arith, refl, ◌∙◌}
use Rattle.grid_types.proofs.NumberLemmas.{value_more, value_over, digit_at, digit_is}
use Rattle.grid_types.proofs.digits.number_within.Goals as goal

pub returns-in-None : goal.returns-in-None
returns-in-None c =
    let digits = c.args.digits.now in
    let d = digit_is (get_or digits c.loop-b.b-index 0) (digit_at digits c.loop-b.b-index c.requires c.loop-b-test.true) in
    let more = value_more digits c.loop-b.b-index (get_or digits c.loop-b.b-index 0) c.loop-b.number c.from-digit.result
    c.requires c.loop-b-test.true refl c.loop-b.invariant.value (omega (arith, d.0, c.from-digit.ensures)) in
    value_over digits c.loop-b.b-index c.args.limit (omega (arith, more, c.in-None.ensures))

pub loop-b-preserved : goal.loop-b-preserved
loop-b-preserved c =
    let digits = c.args.digits.now in
    let d = digit_is (get_or digits c.loop-b.b-index 0) (digit_at digits c.loop-b.b-index c.requires c.loop-b-test.true) in
    let more = value_more digits c.loop-b.b-index (get_or digits c.loop-b.b-index 0) c.loop-b.number c.from-digit.result
    c.requires c.loop-b-test.true refl c.loop-b.invariant.value (omega (arith, d.0, c.from-digit.ensures)) in
    record { value = c.in-Some.ensures.0 ∙ more; within = c.in-Some.ensures.1 }
