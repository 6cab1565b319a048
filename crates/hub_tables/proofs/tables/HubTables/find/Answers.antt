use Rattle.hub_tables.proofs.tables.HubTables.find.Goals as goal

pub returns : goal.returns
returns c = record { of = λ d H s l. c.find.ensures.of d H s.sessions_stand l }
