use Rattle.std.proofs.Common.{◌≡◌}
use Rattle.toml.specs.View.{members_view}
use Rattle.grid_config.specs.Configured.{sections_ascend}
use Rattle.grid_config.proofs.ordered.sections_ascend.Given as goal

abbrev pub invariant-sections : goal.invariant-sections
invariant-sections l = sections_ascend (members_view l.document.entries) ≡ sections_ascend (members_view l._section-iterator)
