use Rattle.std.proofs.Common.{◌≡◌}
use Rattle.hub_journal.proofs.sights.SightsSource.read.Given as goal

-- no end was told yet
abbrev pub invariant-loop : goal.invariant-loop
invariant-loop g l = l.self.ends ≡ l.fn.self.ends
