use Rattle.hub_tables.proofs.tables.HubTables.view.Goals as goal

pub returns : goal.returns
returns c = record { of = λ d H s l. c.view.ensures.of d H (record { nodes_stand = s.nodes_stand; slots_stand = s.slots_stand; requests_stand = s.requests_stand }) l }
