use Rattle.std.proofs.Common.{ap, ◌∙◌}
use Rattle.std.proofs.lemmas.Bool.{false≢true}
use Rattle.grid_types.specs.Names.{is_node_address}
use Rattle.grid_node.proofs.AddressLemmas.{local_is_address}
use Rattle.grid_node.proofs.registering.local_address.Goals as goal

pub unreachable-requires : goal.unreachable-requires
unreachable-requires c = false≢true (c.in-None.ensures.variant ∙ ap is_node_address (c.as_bytes.ensures.value ∙ c.in_ok-text.ensures.ok) ∙ local_is_address c.args.port c.ranges.port.fits)
