use Rattle.hub_tables.proofs.tables.HubTables.registered_as.Goals as goal

pub returns : goal.returns
returns c = record { of = λ d H s l. c.registered_as.ensures.of d H s.nodes_stand l }
