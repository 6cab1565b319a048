use Rattle.hub_tables.proofs.tables.HubTables.next_request_number.Goals as goal

pub returns-clause-counts : goal.returns-clause-counts
returns-clause-counts c = record { of = λ d H s l. s.counts_requests }
