use Rattle.hub_tables.proofs.tables.HubTables.least_idle.Goals as goal

pub returns : goal.returns
returns c = record { of = λ d H s l. c.least_idle.ensures.of d H s.sessions_stand l }
