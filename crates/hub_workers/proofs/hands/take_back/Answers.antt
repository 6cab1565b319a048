use Rattle.std.proofs.Common.{rules, ◌≡◌, ◌≤◌, All, length, vec_len, refl, sym, subst, ◌∙◌, arith}
use Rattle.hub_cell.specs.Passes.{knows}
use Rattle.hub_workers.specs.Hands.{MayEnd, left_by, tool_of}
use Rattle.hub_workers.proofs.GoesLemmas.{goes_both, goes_joining}
use Rattle.hub_workers.proofs.HireLemmas.{ended_more, rises_more, spends_more}
use Rattle.hub_workers.proofs.ListLemmas.{all_end, all_front, given_back, none_left, none_more, one_more}
use Rattle.hub_workers.proofs.hands.take_back.Goals as goal

pub loop-preserved : goal.loop-preserved
loop-preserved g c =
    let i = c.loop.invariant in
    let items = c.take_last-other.ensures.items in
    let each = subst (λ hs. All (MayEnd c.args.hub.now) hs) items i.each in
    let last = all_end (MayEnd c.args.hub.now) _ _ each in
    let left = i.left in
    let count = i.count in
    let taken = c.take_last-other.ensures.len in
    let pushed = c.push_reserved.ensures.len in
    record {
      own = c.join.ensures.own;
      goes = goes_both (knows c.args.pass.now) (knows c.loop.pass) (knows c.join.new.pass) i.goes (goes_joining (knows c.loop.pass) (knows c.take_last-other.result.pass) (knows c.join.new.pass) c.join.ensures.view c.join.ensures.longer.0 c.join.ensures.keeps);
      ended = ended_more (knows c.loop.pass) (knows c.take_last-other.result.pass) (knows c.join.new.pass) c.take_last-other.result _ _ _ c.join.ensures.view refl last.ended i.ended items;
      spends_are = spends_more (knows c.loop.pass) (knows c.take_last-other.result.pass) (knows c.join.new.pass) c.take_last-other.result _ _ _ c.join.ensures.view refl i.spends_are items;
      spent_is = rises_more _ _ _ (knows c.loop.pass) (knows c.take_last-other.result.pass) (knows c.join.new.pass) _ c.also-spent.ensures c.join.ensures.view last.spent i.spent_is;
      tools_are = given_back tool_of _ _ _ _ _ c.take_last-other.result _ i.tools_are items c.push_reserved.ensures.items refl;
      each = all_front (MayEnd c.args.hub.now) _ _ each;
      left = omega (arith, taken, left);
      count = omega (arith, pushed, count);
      room = c.push_reserved.ensures.capacity ∙ i.room;
      spares = λ s most sum. subst (λ z. s ≤ z) (sym c.join.ensures.spares) (one_more s _ _ _ _ i.spares most sum);
    }

pub returns-clause-back : goal.returns-clause-back
returns-clause-back g c =
    let i = c.loop.invariant in
    let done = c.loop-test.false in
    let count = c.len-end.ensures in
    let left = i.left in
    let same : vec_len c.loop.hands ≡ length c.loop.hands.items = search rules in
    let none : length c.loop.hands.items ≡ 0 = omega (arith, left, done, count, same) in
    record {
      goes = i.goes;
      ended = none_left left_by _ _ c.loop.hands.items none i.ended;
      spends_are = none_more (λ h. (knows h.pass).spent) c.loop.hands.items _ _ none i.spends_are;
      spent_is = i.spent_is;
      tools_are = none_left tool_of _ _ c.loop.hands.items none i.tools_are;
    }

pub returns-clause-spares : goal.returns-clause-spares
returns-clause-spares g c = λ s most sum.
    let done = c.loop-test.false in
    let count = c.len-end.ensures in
    c.loop.invariant.spares s most (omega (arith, sum, done, count))
