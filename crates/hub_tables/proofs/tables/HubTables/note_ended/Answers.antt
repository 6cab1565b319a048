use Rattle.std.proofs.Common.{refl}
use Rattle.hub_tables.proofs.NoteLemmas.{given, noted-given, nodes-stay, requests-stay}
use Rattle.hub_tables.proofs.tables.HubTables.note_ended.Goals as goal

pub returns : goal.returns
returns c = noted-given c.table_laws.ensures _ _ _ _ _
    (record { nodes = nodes-stay c.table_laws.ensures _ _ _ refl; slots = c.ended-2.ensures; requests = requests-stay c.table_laws.ensures _ _ _ refl; sessions = given (c.ended.ensures _) })
    (record { nodes = λ d H e l. e; requests = λ d H e l. e; clock = c.not_before-self.ensures; below = λ d H s l. refl; from = refl })
