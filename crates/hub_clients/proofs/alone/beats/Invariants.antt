use Rattle.hub_cell.specs.Passes.{knows, IsOf}
use Rattle.hub_cell.specs.Shared.{KeepsAll}
use Rattle.hub_clients.specs.Turns.{HasTaken}
use Rattle.hub_clients.proofs.alone.beats.Given as goal

abbrev pub invariant-loop : goal.invariant-loop
invariant-loop g l = IsOf l.hub l.pass × KeepsAll (knows l.initial.pass) (knows l.pass) × HasTaken l.counter (knows l.initial.pass) (knows l.pass)
