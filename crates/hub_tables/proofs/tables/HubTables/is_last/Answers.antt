use Rattle.hub_tables.proofs.tables.HubTables.is_last.Goals as goal

pub returns : goal.returns
returns g c = record { of = λ d H s l. c.is_last.ensures.of d H s.nodes_stand s.requests_stand l }
