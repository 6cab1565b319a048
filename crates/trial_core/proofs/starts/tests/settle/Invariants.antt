use Rattle.hub_core.specs.HubView.{past}
use Rattle.trial_core.specs.Carried.{IsGoodTicket}
use Rattle.trial_core.proofs.starts.tests.settle.Given as goal

-- the request waits on
abbrev pub invariant-loop : goal.invariant-loop
invariant-loop l = IsGoodTicket (past l.hub) l.ticket
