use Rattle.hub_tables.proofs.tables.HubTables.next_lapsed.Goals as goal

pub returns-clause-first : goal.returns-clause-first
returns-clause-first c = record { of = λ d H s l. c.first_lapsed.ensures.first.of d H s.nodes_stand l }
