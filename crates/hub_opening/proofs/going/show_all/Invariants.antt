use Rattle.std.proofs.Common.{◌≡◌, [], drop}
use Rattle.grid_types.specs.LookupMap as lookup
use Rattle.map_view.specs.Lists.{listed}
use Rattle.map_view.specs.Maps.{published, pending}
use Rattle.hub_opening.proofs.going.show_all.Given as goal

abbrev pub invariant-loop-item : goal.invariant-loop-item
invariant-loop-item g l = record {
  shown : lookup.published (published l.map) (listed (drop l.item-index l.items)) ≡ lookup.published (published l.fn.map) (listed l.items);
  none : pending l.map ≡ [];
}
