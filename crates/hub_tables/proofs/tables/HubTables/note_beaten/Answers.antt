use Rattle.std.proofs.Common.{refl}
use Rattle.hub_tables.proofs.NoteLemmas.{given, noted, slots-stay, requests-stay, sessions-stay}
use Rattle.hub_tables.proofs.tables.HubTables.note_beaten.Goals as goal

pub returns : goal.returns
returns c = λ k. noted c.table_laws.ensures _ _ k _
    (record { nodes = given (c.beaten.ensures k); slots = slots-stay c.table_laws.ensures _ k _ refl; requests = requests-stay c.table_laws.ensures _ k _ refl; sessions = sessions-stay c.table_laws.ensures _ k _ refl })
    (record { nodes = λ d H e l. e; requests = λ d H e l. e; clock = c.not_before-self.ensures; below = λ d H s l. c.below_after_beat-self.ensures.of d H s l; from = refl })
