use Rattle.std.proofs.Common.{refl}
use Rattle.hub_tables.proofs.NoteLemmas.{given, no-sooner, noted, noted-kept, nodes-stay, requests-stay, sessions-stay}
use Rattle.hub_tables.proofs.tables.HubTables.note_freed.Goals as goal

pub returns-clause-noted : goal.returns-clause-noted
returns-clause-noted c = λ k. noted-kept _ _ _ k _ (noted c.table_laws.ensures _ _ k _
    (record { nodes = nodes-stay c.table_laws.ensures _ k _ refl; slots = given (c.freed.ensures k); requests = requests-stay c.table_laws.ensures _ k _ refl; sessions = sessions-stay c.table_laws.ensures _ k _ refl })
    (record { nodes = λ d H e l. e; requests = λ d H e l. e; clock = no-sooner _; below = λ d H s l. refl; from = refl })) c.forget_unlisted.ensures.keeps
