use Rattle.std.proofs.Common.{rules, ◌≡◌, ◌<◌, ℕ, List, length, IsOk, ap, sym, subst, ◌∙◌, arith}
use Rattle.std.specs.List.{insert}
use Rattle.std.specs.Vec.{vec_len, vec_capacity}
use Rattle.map_view.specs.declared.sheet.Row.{Row}
use Rattle.map_view.specs.Racks.{IsRack, laid}
use Rattle.map_view.proofs.Order.{inserted}
use Rattle.map_view.proofs.RackLemmas.{as-long, free-within, insert-length, laid-insert, placed-within, rack-inserted}
use Rattle.map_view.proofs.rack.Rack.insert.Goals as goal

pub place_for-place-requires-clause-few : goal.place_for-place-requires-clause-few
place_for-place-requires-clause-few c h =
    let long = as-long c.self.inside.rows.items c.args.self.now c.self.inside.order.items c.self.inside.free.items c.self.invariant.0 c.self.view_is in
    let all = c.self.invariant.0.0 in
    omega (arith, h, long, all, c.requires.1)

pub place_for-place-requires-clause-inside : goal.place_for-place-requires-clause-inside
place_for-place-requires-clause-inside c = free-within c.self.inside.rows.items c.self.inside.order.items c.self.inside.free.items c.self.invariant.0

pub insert-requires : goal.insert-requires
insert-requires c =
    let long = as-long c.self.inside.rows.items c.args.self.now c.self.inside.order.items c.self.inside.free.items c.self.invariant.0 c.self.view_is in
    let same : vec_len c.self.inside.order ≡ length c.self.inside.order.items = search rules in
    omega (arith, long, same, c.requires.0)

pub invariant_of-self : goal.invariant_of-self
invariant_of-self c =
    let rows = c.self.inside.rows.items in
    let order = c.self.inside.order.items in
    let long = as-long rows c.args.self.now order c.self.inside.free.items c.self.invariant.0 c.self.view_is in
    let same : vec_len c.self.inside.order ≡ length order = search rules in
    let fits : vec_len c.self.inside.order < vec_capacity c.self.inside.order = omega (arith, long, same, c.requires.1, c.self.invariant.2) in
    let ok : IsOk c.insert.result = c.insert.ensures.succeeds fits in
    let now : c.insert.new.self.items ≡ insert order c.args.index c.place_for-place.result = inserted c.insert.result _ _ _ ok c.insert.ensures.items in
    let placed = c.place_for-place.ensures.places order c.self.invariant.0 in
    let more = insert-length c.args.index c.place_for-place.result order (omega (arith, long, c.requires.0)) in (
      subst (λ (z : List ℕ). IsRack c.place_for-place.new.rows.items z c.place_for-place.new.free.items) (sym now) (rack-inserted rows c.place_for-place.new.rows.items order c.place_for-place.new.free.items c.args.index c.place_for-place.result c.args.row placed more),
      c.place_for-place.ensures.room.0,
      search rules,
      c.place_for-place.ensures.room.1 ∙ c.self.invariant.3,
    )

pub returns : goal.returns
returns c =
    let rows = c.self.inside.rows.items in
    let order = c.self.inside.order.items in
    let long = as-long rows c.args.self.now order c.self.inside.free.items c.self.invariant.0 c.self.view_is in
    let same : vec_len c.self.inside.order ≡ length order = search rules in
    let fits : vec_len c.self.inside.order < vec_capacity c.self.inside.order = omega (arith, long, same, c.requires.1, c.self.invariant.2) in
    let ok : IsOk c.insert.result = c.insert.ensures.succeeds fits in
    let now : c.insert.new.self.items ≡ insert order c.args.index c.place_for-place.result = inserted c.insert.result _ _ _ ok c.insert.ensures.items in
    let placed = c.place_for-place.ensures.places order c.self.invariant.0 in
    let new = c.place_for-place.new.rows.items in
    ap (laid new) now
    ∙ (laid-insert new order c.args.index c.place_for-place.result c.args.row (placed-within rows new order c.place_for-place.new.free.items c.place_for-place.result c.args.row placed) placed.stands
    ∙ ap (λ (z : List Row). insert z c.args.index c.args.row) (placed.same ∙ c.self.view_is))
