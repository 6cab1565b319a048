use Rattle.hub_tables.proofs.tables.HubTables.next_waiting.Goals as goal

pub returns-clause-first : goal.returns-clause-first
returns-clause-first c = record { of = λ d H s l. c.waiting_after.ensures.first.of d H s.requests_stand l }
