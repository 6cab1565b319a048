use Rattle.std.proofs.Common.{refl}
use Rattle.hub_tables.proofs.NoteLemmas.{given, noted, noted-kept, nodes-stay, sessions-stay}
use Rattle.hub_tables.proofs.tables.HubTables.note_failed.Goals as goal

pub returns-clause-noted : goal.returns-clause-noted
returns-clause-noted c = noted-kept _ _ _ _ _ (noted c.table_laws.ensures _ _ _ _
    (record { nodes = nodes-stay c.table_laws.ensures _ _ _ refl; slots = given (rw c.copied-2.ensures at c.failed-2.ensures); requests = given (rw c.copied.ensures at c.failed.ensures _); sessions = sessions-stay c.table_laws.ensures _ _ _ refl })
    (record { nodes = λ d H e l. e; requests = λ d H e l. e; clock = c.not_before-self.ensures; below = λ d H s l. refl; from = refl })) c.forget_unlisted.ensures.keeps
