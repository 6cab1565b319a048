use Rattle.hub_tables.proofs.tables.HubTables.unsettled_bytes.Goals as goal

pub returns : goal.returns
returns c = record { of = λ d H s l. c.bytes.ensures.of d H s.requests_stand l }
