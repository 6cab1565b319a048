use Rattle.hub_tellers.specs.Starts.{Stood}
use Rattle.hub_tellers.proofs.CallLemmas.{tells_call}
use Rattle.hub_tellers.proofs.BindLemmas.{kept_told}
use Rattle.hub_tellers.proofs.calls.starts.told_start.Goals as goal

pub returns-in-Some : goal.returns-in-Some
returns-in-Some c = λ before reservation capabilities at is_of serves raised stood.
    kept_told c.calls_make.ensures _ _ _ _ _ _ _ _ raised reservation _ capabilities _ _ _ _ _ is_of.same_request c.in-Bound.is serves stood c.in-Some.ensures (c.told_bind.ensures reservation is_of)

pub returns-in-None : goal.returns-in-None
returns-in-None c = λ before reservation capabilities at is_of serves raised stood. record { of = λ H s may. c.untold.ensures _ }

pub returns-in_default : goal.returns-in_default
returns-in_default c = λ before reservation capabilities at is_of serves raised stood.
    tells_call _ _ _ _ _ _ _ serves raised (Stood _ reservation _ capabilities _ _) _ _ _ stood (c.told_unkept.ensures capabilities reservation is_of)
