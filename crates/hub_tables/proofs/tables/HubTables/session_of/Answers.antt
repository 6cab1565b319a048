use Rattle.hub_tables.proofs.tables.HubTables.session_of.Goals as goal

pub returns : goal.returns
returns c = record { of = λ d H s l. c.session_of.ensures.of d H s.sessions_stand l }
