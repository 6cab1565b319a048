use Rattle.grid_ledger.proofs.ledger.GridLedger.into_tables.Goals as goal

pub returns : goal.returns
returns c = λ H s. c.resume.ensures c.args.self.config H (s.nodes_stand, s.slots_stand, s.requests_stand, s.sessions_stand) (s.counts_nodes, s.counts_requests, s.tells_clock)
