use Rattle.std.proofs.Common.{◌≡◌, ◌+◌, length}
use Rattle.hub_cell.specs.Passes.{knows, IsOf}
use Rattle.hub_clients.proofs.many.beat_often.Given as goal

abbrev pub invariant-loop : goal.invariant-loop
invariant-loop g l = IsOf l.hub l.pass × (length (knows l.pass).mine ≡ length (knows l.initial.pass).mine + l.counter) × ((knows l.pass).ended ≡ (knows l.initial.pass).ended)
