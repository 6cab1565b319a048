use Rattle.std.proofs.Common.{◌≡◌, Bool, true, false, List, ℕ, ap, sym, ◌∙◌}
use Rattle.std.specs.Prelude.{bytes_eq}
use Rattle.map_view.proofs.Order.{there, other-there, none-there}
use Rattle.map_view.proofs.sheet.index_of.Goals as goal

abbrev compared : (a b x y : List ℕ) (t r : Bool) → a ≡ x → b ≡ y → t ≡ bytes_eq a b → t ≡ r → bytes_eq x y ≡ r
compared a b x y t r p q e h = ap (λ (z : List ℕ). bytes_eq z y) (sym p) ∙ (ap (bytes_eq a) (sym q) ∙ (sym e ∙ h))

pub returns-then-eq-clause-found : goal.returns-then-eq-clause-found
returns-then-eq-clause-found c =
    let all = there c.args.session.now c.args.rows.now c.count_before-index.result c.in-Some.row.now c.requires c.count_before-index.ensures c.in-Some.ensures.found
    (compared _ _ _ _ c.eq.result true c.as_bytes.ensures.bytes c.as_bytes-in-Some.ensures.bytes c.eq.ensures c.if-eq.true) in
    (all.0, all.1)

pub returns-then-eq-clause-others : goal.returns-then-eq-clause-others
returns-then-eq-clause-others c =
    (there c.args.session.now c.args.rows.now c.count_before-index.result c.in-Some.row.now c.requires c.count_before-index.ensures c.in-Some.ensures.found
    (compared _ _ _ _ c.eq.result true c.as_bytes.ensures.bytes c.as_bytes-in-Some.ensures.bytes c.eq.ensures c.if-eq.true)).2

pub returns-else-eq-clause-none : goal.returns-else-eq-clause-none
returns-else-eq-clause-none c =
    other-there c.args.session.now c.args.rows.now c.count_before-index.result c.in-Some.row.now c.requires c.count_before-index.ensures c.in-Some.ensures.found
    (compared _ _ _ _ c.eq.result false c.as_bytes.ensures.bytes c.as_bytes-in-Some.ensures.bytes c.eq.ensures c.if-eq.false)

pub returns-in-None-clause-none : goal.returns-in-None-clause-none
returns-in-None-clause-none c =
    none-there c.args.session.now c.args.rows.now c.count_before-index.result c.requires c.count_before-index.ensures c.in-None.ensures.none
