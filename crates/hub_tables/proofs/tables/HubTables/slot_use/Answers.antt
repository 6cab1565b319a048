use Rattle.hub_tables.proofs.tables.HubTables.slot_use.Goals as goal

pub returns : goal.returns
returns c = record { of = λ d H s l. c.slot_use.ensures.of d H s.slots_stand l }
