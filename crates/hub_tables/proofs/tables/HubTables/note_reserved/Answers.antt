use Rattle.std.proofs.Common.{refl}
use Rattle.hub_tables.proofs.NoteLemmas.{any-err, given, noted, keeps, sessions-stay}
use Rattle.hub_tables.proofs.tables.HubTables.note_reserved.Goals as goal

pub returns-in_err-make_room-clause-refused : goal.returns-in_err-make_room-clause-refused
returns-in_err-make_room-clause-refused c = any-err _ (keeps _ _ refl refl refl refl refl
    (record { nodes = λ d H s l. c.make_room.ensures.kept.still H s.nodes_stand; slots = λ d H s l. s.slots_stand; requests = λ d H s l. s.requests_stand; sessions = λ d H s l. s.sessions_stand }))

pub returns-in_err-reserved-clause-refused : goal.returns-in_err-reserved-clause-refused
returns-in_err-reserved-clause-refused c = any-err _ (keeps _ _ refl refl refl refl refl
    (record {
      nodes = λ d H s l. c.make_room.ensures.kept.still H s.nodes_stand;
      slots = λ d H s l. s.slots_stand;
      requests = λ d H s l. c.in_err-reserved.ensures.refused.still H s.requests_stand;
      sessions = λ d H s l. s.sessions_stand;
    }))

pub returns-clause-noted : goal.returns-clause-noted
returns-clause-noted c = noted c.table_laws.ensures _ _ _ _
    (record {
      nodes = record { after = λ d H g s l. (rw c.unwrap-2.ensures at c.reserved-3.ensures.stands _).after d H (c.make_room.ensures.kept.still H s) l };
      slots = given c.reserved-2.ensures.stands;
      requests = given (c.in_ok-reserved.ensures.stands _);
      sessions = sessions-stay c.table_laws.ensures _ _ _ refl;
    })
    (record { nodes = λ d H e l. e; requests = λ d H e l. e; clock = c.not_before-self.ensures; below = λ d H s l. refl; from = refl })
