use Rattle.hub_tables.proofs.tables.HubTables.is_supported.Goals as goal

pub returns : goal.returns
returns g c = record { of = λ d H s l. c.is_supported.ensures.of d H s.nodes_stand l }
