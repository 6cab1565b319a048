use Rattle.std.proofs.Common.{rules, ◌≡◌, ℕ, List, length, ap, sym, subst, ◌∙◌}
use Rattle.std.specs.Prelude.{slice_get}
use Rattle.std.proofs.lemmas.List.Sorted.{IsPartitionPoint-from_clause}
use Rattle.map_view.specs.declared.sheet.Row.{Row}
use Rattle.map_view.specs.Rows.{before, in_order}
use Rattle.map_view.specs.Racks.{laid, told_before}
use Rattle.map_view.proofs.Order.{passed}
use Rattle.map_view.proofs.RackLemmas.{Within, counted-places, order-within, parted-places}
use Rattle.map_view.proofs.rack.Rack.count_before.Goals as goal

pub returns : goal.returns
returns c =
    let s = c.args.session.now in
    let rows = c.as_slice-rows.result.now in
    let order = c.as_slice.result.now in
    let rows_are : rows ≡ c.self.inside.rows.items = c.as_slice-rows.ensures.value in
    let order_is : order ≡ c.self.inside.order.items = c.as_slice.ensures.value in
    let view : laid rows order ≡ c.args.self.now = ap (λ (z : List Row). laid z order) rows_are ∙ (ap (laid c.self.inside.rows.items) order_is ∙ c.self.view_is) in
    let within : Within rows order = subst (λ (z : List Row). Within z order) (sym rows_are) (subst (Within c.self.inside.rows.items) (sym order_is)
    (order-within c.self.inside.rows.items c.self.inside.order.items c.self.inside.free.items c.self.invariant.0)) in
    let parted = parted-places s rows order (ap in_order view ∙ c.requires) within in
    sym (passed (λ (p : ℕ). told_before s (slice_get rows p)) order c.partition_point.result c.partition_point.ensures.bound
    (IsPartitionPoint-from_clause (λ (p : ℕ). told_before s (slice_get rows p)) order c.partition_point.result c.partition_point.ensures.partitioned parted (λ a r f t. search rules)))
    ∙ (sym (counted-places s rows order) ∙ ap (λ (z : List Row). length (before s z)) view)
