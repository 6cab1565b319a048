use Rattle.hub_tables.proofs.tables.HubTables.is_suspect.Goals as goal

pub returns : goal.returns
returns c = record { of = λ d H s l. c.is_suspect.ensures.of d H s.nodes_stand l }
