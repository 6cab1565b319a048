use Rattle.hub_tables.proofs.tables.HubTables.next_assignment.Goals as goal

pub returns-clause-answer : goal.returns-clause-answer
returns-clause-answer g c = record { of = λ d H s l. c.chosen.ensures.answer.of d H (record { nodes_stand = s.nodes_stand; slots_stand = s.slots_stand; requests_stand = s.requests_stand }) l (c.first_to_search-first.ensures.of d H s l) }

pub returns-clause-cost : goal.returns-clause-cost
returns-clause-cost g c = record { of = λ d H s l. c.chosen.ensures.cost.of d H (record { nodes_stand = s.nodes_stand; slots_stand = s.slots_stand; requests_stand = s.requests_stand }) l }
