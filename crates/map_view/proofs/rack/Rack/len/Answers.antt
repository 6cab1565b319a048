use Rattle.std.proofs.Common.{rules, ◌≡◌, length, sym, ◌∙◌}
use Rattle.map_view.proofs.RackLemmas.{as-long}
use Rattle.map_view.proofs.rack.Rack.len.Goals as goal

pub returns : goal.returns
returns c =
    let long = as-long c.self.inside.rows.items c.args.self.now c.self.inside.order.items c.self.inside.free.items c.self.invariant.0 c.self.view_is in
    let is : c.len.result ≡ length c.self.inside.order.items = search rules in
    is ∙ sym long
