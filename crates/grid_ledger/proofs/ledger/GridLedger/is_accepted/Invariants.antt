use Rattle.grid_ledger.proofs.ledger.GridLedger.is_accepted.Given as goal

abbrev pub ghosts-counted_support : goal.ghosts-counted_support
ghosts-counted_support a = record { name = a.blank.name; parts = a.blank.parts }
