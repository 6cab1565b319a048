use Rattle.std.proofs.Common.{◌≡◌, map}
use Rattle.toml.specs.View.{members_view}
use Rattle.grid_config.specs.Configured.{fault_in}
use Rattle.grid_config.specs.Rows.{row_told}
use Rattle.grid_config.proofs.checking.check.Given as goal

abbrev pub invariant-sections : goal.invariant-sections
invariant-sections l =
    fault_in (map row_told l.rows) (members_view l.document.entries)
    ≡ fault_in (map row_told l.rows) (members_view l.section-iterator)
