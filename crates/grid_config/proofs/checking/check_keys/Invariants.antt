use Rattle.std.proofs.Common.{◌≡◌, map}
use Rattle.toml.specs.View.{members_view}
use Rattle.grid_config.specs.Configured.{keys_fault}
use Rattle.grid_config.specs.Rows.{row_told}
use Rattle.grid_config.proofs.checking.check_keys.Given as goal

abbrev pub invariant-keys : goal.invariant-keys
invariant-keys l =
    keys_fault (map row_told l.rows) l.section (members_view l.keys.entries)
    ≡ keys_fault (map row_told l.rows) l.section (members_view l.key-iterator)
