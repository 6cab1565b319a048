use Rattle.hub_tellers.specs.Tells.{Nothing}
use Rattle.hub_tellers.proofs.NodeLemmas.{register_quiet}
use Rattle.hub_tellers.proofs.CallLemmas.{tells_call}
use Rattle.hub_tellers.proofs.RowLemmas.{listed_told}
use Rattle.hub_tellers.proofs.calls.nodes.told_listed.Goals as goal

pub returns-in-Some : goal.returns-in-Some
returns-in-Some c = λ before node at serves raised. listed_told c.calls_make.ensures _ _ _ _ _ _ _ _ raised node _ _ _ c.in-Registered.is serves c.in-Some.ensures c.told_register.ensures

pub returns-in-None : goal.returns-in-None
returns-in-None c = λ before node at serves raised. record { of = λ H s may. c.untold.ensures _ }

pub returns-in_default : goal.returns-in_default
returns-in_default c = λ before node at serves raised. tells_call _ _ _ _ _ _ _ serves raised Nothing _ _ _ (λ H s may. tt) (register_quiet c.calls_make.ensures _ _ _ _ _ _ c.in_default.not-Registered)
