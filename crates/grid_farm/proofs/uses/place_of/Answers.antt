use Rattle.std.proofs.Common.{sym}
use Rattle.grid_farm.specs.Uses.{comes_before}
use Rattle.grid_farm.proofs.PlaceLemmas.{found, none_found}
use Rattle.grid_farm.proofs.uses.place_of.Goals as goal

pub returns-in-Some-clause-place : goal.returns-in-Some-clause-place
returns-in-Some-clause-place c =
    found (λ row. comes_before c.args.slot row.slot) c.args.rows.now c.in-Some.place (sym c.in-Some.ensures.place)

pub returns-in-None-clause-place : goal.returns-in-None-clause-place
returns-in-None-clause-place c =
    none_found (λ row. comes_before c.args.slot row.slot) c.args.rows.now (sym c.in-None.ensures.place)
