use Rattle.hub_tables.proofs.tables.HubTables.next_drained.Goals as goal

pub returns-clause-first : goal.returns-clause-first
returns-clause-first c = record { of = λ d H s l. c.first_drained.ensures.first.of d H (record { nodes_stand = s.nodes_stand; slots_stand = s.slots_stand }) l }
