use Rattle.own_hub.proofs.local.LocalHubOwnHub.freed.Goals as goal

pub returns : goal.returns
returns c = λ at. record { serves = c.freed.ensures at; goes = record { is_open = tt; along = λ first told. tt } }
