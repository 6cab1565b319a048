use Rattle.hub_tables.proofs.tables.HubTables.is_spent.Goals as goal

pub returns-clause-listed : goal.returns-clause-listed
returns-clause-listed c = record { of = λ d H s l. c.is_spent.ensures.listed.of d H s.nodes_stand l }

pub returns-clause-unknown : goal.returns-clause-unknown
returns-clause-unknown c = λ none. c.is_spent.ensures.unknown none.no_node
