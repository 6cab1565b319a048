use Rattle.hub_tables.proofs.tables.HubTables.request.Goals as goal

pub returns : goal.returns
returns c = record { of = λ d H s l. c.get.ensures.of d H s.requests_stand l }
