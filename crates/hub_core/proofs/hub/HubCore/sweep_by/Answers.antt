use Rattle.hub_core.proofs.hub.HubCore.sweep_by.Goals as goal

pub sweep-requires : goal.sweep-requires
sweep-requires g c = c.requires

pub returns : goal.returns
returns g c = c.sweep.ensures
