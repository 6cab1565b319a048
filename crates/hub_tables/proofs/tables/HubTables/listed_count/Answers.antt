use Rattle.hub_tables.proofs.tables.HubTables.listed_count.Goals as goal

pub returns : goal.returns
returns c = record { of = λ d H s l. c.listed_count.ensures.of d H (record { nodes_stand = s.nodes_stand; slots_stand = s.slots_stand }) l }
