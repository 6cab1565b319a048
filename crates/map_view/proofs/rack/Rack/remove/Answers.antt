use Rattle.std.proofs.Common.{rules, ◌≡◌, ℕ, List, length, ap, sym, subst, ◌∙◌, arith}
use Rattle.std.specs.List.{remove}
use Rattle.std.specs.Vec.{vec_len}
use Rattle.map_view.specs.declared.sheet.Row.{Row}
use Rattle.map_view.specs.Racks.{IsRack, laid}
use Rattle.map_view.proofs.RackLemmas.{as-long, laid-remove, order-within, rack-removed, remove-length}
use Rattle.map_view.proofs.rack.Rack.remove.Goals as goal

pub remove-place-requires : goal.remove-place-requires
remove-place-requires c =
    let long = as-long c.self.inside.rows.items c.args.self.now c.self.inside.order.items c.self.inside.free.items c.self.invariant.0 c.self.view_is in
    let same : vec_len c.self.inside.order ≡ length c.self.inside.order.items = search rules in
    omega (arith, long, same, c.requires)

pub invariant_of-self : goal.invariant_of-self
invariant_of-self c =
    let rows = c.self.inside.rows.items in
    let order = c.self.inside.order.items in
    let free = c.self.inside.free.items in
    let long = as-long rows c.args.self.now order free c.self.invariant.0 c.self.view_is in
    let removed = rack-removed rows order free c.args.index c.remove-place.result c.self.invariant.0 (omega (arith, long, c.requires)) c.remove-place.ensures.value (remove-length c.args.index order (omega (arith, long, c.requires))) in
    let with_free = subst (λ (z : List ℕ). IsRack rows (remove order c.args.index) z) (sym c.push_reserved.ensures.items) removed in (
      subst (λ (z : List ℕ). IsRack rows z c.push_reserved.new.self.items) (sym c.remove-place.ensures.items) with_free,
      c.self.invariant.1,
      c.remove-place.ensures.capacity ∙ c.self.invariant.2,
      c.push_reserved.ensures.capacity ∙ c.self.invariant.3,
    )

pub returns : goal.returns
returns c =
    let rows = c.self.inside.rows.items in
    let order = c.self.inside.order.items in
    ap (laid rows) c.remove-place.ensures.items
    ∙ (laid-remove rows order c.args.index (order-within rows order c.self.inside.free.items c.self.invariant.0) ∙ ap (λ (z : List Row). remove z c.args.index) c.self.view_is)
