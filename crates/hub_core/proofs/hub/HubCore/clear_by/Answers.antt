use Rattle.hub_core.proofs.hub.HubCore.clear_by.Goals as goal

pub clear-requires : goal.clear-requires
clear-requires g c = c.requires

pub returns : goal.returns
returns g c = c.clear.ensures
