use Rattle.hub_tables.proofs.tables.HubTables.uses.Goals as goal

pub returns : goal.returns
returns c = record { of = λ d H s l. c.uses.ensures.of d H s.slots_stand l }
