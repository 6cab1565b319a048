use Rattle.hub_server.proofs.looping.crowd_of.Goals as goal

pub returns-in-Ok : goal.returns-in-Ok
returns-in-Ok g c = λ hub root reader. c.in-Ok.ensures hub root reader
