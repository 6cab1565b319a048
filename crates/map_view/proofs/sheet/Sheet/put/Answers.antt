use Rattle.std.proofs.Common.{rules, ◌≡◌, ◌<◌, true, Bool, List, ℕ, length, find, None, ap, sym, ◌∙◌, arith}
use Rattle.std.proofs.lemmas.Bool.Decides.{nat_tests}
use Rattle.std.specs.Prelude.{nat_lt}
use Rattle.std.specs.List.{insert}
use Rattle.map_view.specs.declared.sheet.Row.{Row}
use Rattle.map_view.specs.Rows.{room, in_order, others, is_of, placed, joined}
use Rattle.map_view.proofs.Order.{few-before, inserted-at, placed-ordered, none-of-others}
use Rattle.map_view.proofs.RackLemmas.{insert-length}
use Rattle.map_view.proofs.sheet.Sheet.put.Goals as goal

pub insert-requires : goal.insert-requires
insert-requires c =
    let few = few-before c.args.row.session c.remove.new.self.rows in
    (omega (arith, few, c.count_before-index.ensures), search rules)

pub invariant_of-self : goal.invariant_of-self
invariant_of-self c =
    let s = c.args.row.session in
    let mid = c.remove.new.self.rows in
    let none : find (is_of s) mid ≡ None = ap (find (is_of s)) c.remove.ensures.rows ∙ none-of-others s c.args.self.now.rows in
    let now : c.insert.new.self ≡ placed c.args.row mid = c.insert.ensures ∙ (ap (λ (i : ℕ). insert mid i c.args.row) c.count_before-index.ensures ∙ inserted-at c.args.row mid c.remove.new.self.ordered) in
    let few : length mid < room = search rules in
    let before_few = few-before s mid in
    let more = insert-length c.count_before-index.result c.args.row mid (omega (arith, before_few, c.count_before-index.ensures)) in
    let long = ap (λ (z : List Row). length z) c.insert.ensures in
    record {
      sized = omega (arith, few, more, long);
      ordered = ap in_order now ∙ placed-ordered c.args.row mid c.remove.new.self.ordered none;
    }

pub returns-then-len-lt-ROOM-clause-rows : goal.returns-then-len-lt-ROOM-clause-rows
returns-then-len-lt-ROOM-clause-rows c =
    let rest = others c.args.row.session c.args.self.now.rows in
    let mid = c.remove.new.self.rows in
    let now : c.insert.new.self ≡ placed c.args.row mid = c.insert.ensures ∙ (ap (λ (i : ℕ). insert mid i c.args.row) c.count_before-index.ensures ∙ inserted-at c.args.row mid c.remove.new.self.ordered) in
    let same : mid ≡ rest = c.remove.ensures.rows in
    let long : length rest ≡ length mid = ap (λ (z : List Row). length z) (sym same) in
    let few : length rest < room = search rules in
    let fits : nat_lt (length rest) room ≡ true = grind (arith, nat_tests) in
    now ∙ (ap (placed c.args.row) same ∙ sym (ap (λ (b : Bool). joined b rest c.args.row) fits))
