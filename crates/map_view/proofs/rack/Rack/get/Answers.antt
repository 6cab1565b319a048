use Rattle.std.proofs.Common.{◌≡◌, ℕ, List, None, Some, ap, sym, ◌∙◌}
use Rattle.std.specs.Prelude.{slice_get}
use Rattle.map_view.specs.declared.sheet.Row.{Row}
use Rattle.map_view.proofs.Order.{got, got-none}
use Rattle.map_view.proofs.RackLemmas.{at_place, laid-get, order-within, row-found, row-none}
use Rattle.map_view.proofs.rack.Rack.get.Goals as goal

pub returns-in-Some-clause-found : goal.returns-in-Some-clause-found
returns-in-Some-clause-found c =
    let rows = c.self.inside.rows.items in
    let order = c.self.inside.order.items in
    let at : slice_get c.deref.result.now c.args.index ≡ Some c.in-Some.place.now = got c.deref.result.now c.args.index c.in-Some.place c.in-Some.ensures.lookup in
    let there : slice_get order c.args.index ≡ Some c.in-Some.place.now = ap (λ (z : List ℕ). slice_get z c.args.index) (sym c.deref.ensures.value) ∙ at in
    let want : slice_get c.args.self.now c.args.index ≡ slice_get c.deref-in-Some.result.now c.in-Some.place.now =
    ap (λ (z : List Row). slice_get z c.args.index) (sym c.self.view_is)
    ∙ (laid-get rows order c.args.index (order-within rows order c.self.inside.free.items c.self.invariant.0)
    ∙ (ap (at_place rows) there ∙ ap (λ (z : List Row). slice_get z c.in-Some.place.now) (sym c.deref-in-Some.ensures.value))) in
    row-found c.deref-in-Some.result.now c.in-Some.place.now (slice_get c.args.self.now c.args.index) want c.get-in-Some.result c.get-in-Some.ensures.lookup

pub returns-in-Some-clause-none : goal.returns-in-Some-clause-none
returns-in-Some-clause-none c =
    let rows = c.self.inside.rows.items in
    let order = c.self.inside.order.items in
    let at : slice_get c.deref.result.now c.args.index ≡ Some c.in-Some.place.now = got c.deref.result.now c.args.index c.in-Some.place c.in-Some.ensures.lookup in
    let there : slice_get order c.args.index ≡ Some c.in-Some.place.now = ap (λ (z : List ℕ). slice_get z c.args.index) (sym c.deref.ensures.value) ∙ at in
    let want : slice_get c.args.self.now c.args.index ≡ slice_get c.deref-in-Some.result.now c.in-Some.place.now =
    ap (λ (z : List Row). slice_get z c.args.index) (sym c.self.view_is)
    ∙ (laid-get rows order c.args.index (order-within rows order c.self.inside.free.items c.self.invariant.0)
    ∙ (ap (at_place rows) there ∙ ap (λ (z : List Row). slice_get z c.in-Some.place.now) (sym c.deref-in-Some.ensures.value))) in
    row-none c.deref-in-Some.result.now c.in-Some.place.now (slice_get c.args.self.now c.args.index) want c.get-in-Some.result c.get-in-Some.ensures.lookup

pub returns-in-None-clause-none : goal.returns-in-None-clause-none
returns-in-None-clause-none c =
    let rows = c.self.inside.rows.items in
    let order = c.self.inside.order.items in
    let at : slice_get c.deref.result.now c.args.index ≡ None = got-none c.deref.result.now c.args.index c.in-None.ensures.lookup in
    let there : slice_get order c.args.index ≡ None = ap (λ (z : List ℕ). slice_get z c.args.index) (sym c.deref.ensures.value) ∙ at in
    ap (λ (z : List Row). slice_get z c.args.index) (sym c.self.view_is) ∙ (laid-get rows order c.args.index (order-within rows order c.self.inside.free.items c.self.invariant.0) ∙ ap (at_place rows) there)
