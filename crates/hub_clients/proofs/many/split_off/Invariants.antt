use Rattle.std.proofs.Common.{◌≡◌, [], All, vec_len}
use Rattle.hub_cell.specs.Passes.{knows, IsOf}
use Rattle.hub_clients.specs.Beats.{IsNew}
use Rattle.hub_clients.proofs.many.split_off.Given as goal

abbrev pub invariant-loop : goal.invariant-loop
invariant-loop g l =
    IsOf l.hub l.pass × ((knows l.pass).ended ≡ []) × ((knows l.pass).mine ≡ (knows l.initial.pass).mine) × (vec_len l.passes ≡ l.counter) × All (IsNew l.hub) l.passes.items
