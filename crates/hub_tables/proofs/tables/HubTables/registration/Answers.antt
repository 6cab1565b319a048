use Rattle.hub_tables.proofs.tables.HubTables.registration.Goals as goal

pub returns-clause-listed : goal.returns-clause-listed
returns-clause-listed c = record { of = λ d H s l. c.registration.ensures.listed.of d H s.nodes_stand l }

pub returns-clause-unknown : goal.returns-clause-unknown
returns-clause-unknown c = λ none. c.registration.ensures.unknown none.no_node
