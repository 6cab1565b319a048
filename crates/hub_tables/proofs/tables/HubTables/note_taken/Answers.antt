use Rattle.std.proofs.Common.{refl}
use Rattle.hub_tables.proofs.NoteLemmas.{given, noted, nodes-stay, slots-stay, sessions-stay}
use Rattle.hub_tables.proofs.tables.HubTables.note_taken.Goals as goal

pub returns-clause-noted : goal.returns-clause-noted
returns-clause-noted c = λ k. noted c.table_laws.ensures _ _ k _
    (record { nodes = nodes-stay c.table_laws.ensures _ k _ refl; slots = slots-stay c.table_laws.ensures _ k _ refl; requests = given (c.taken-outcome.ensures.stands k); sessions = sessions-stay c.table_laws.ensures _ k _ refl })
    (record { nodes = λ d H e l. e; requests = λ d H e l. e; clock = c.not_before-self.ensures; below = λ d H s l. refl; from = refl })

pub returns-clause-outcome : goal.returns-clause-outcome
returns-clause-outcome c = record { of = λ d H s l. c.taken-outcome.ensures.outcome.of d H s.requests_stand l }

pub returns-clause-only : goal.returns-clause-only
returns-clause-only c = record { of = λ d H s l. c.taken-outcome.ensures.only.of d H s.requests_stand l }
