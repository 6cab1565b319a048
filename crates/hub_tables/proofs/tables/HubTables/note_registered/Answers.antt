use Rattle.std.proofs.Common.{refl}
use Rattle.hub_tables.proofs.NoteLemmas.{any-err, given, noted, keeps, node-next, next-unregistered, requests-stay, sessions-stay}
use Rattle.hub_tables.proofs.tables.HubTables.note_registered.Goals as goal

pub returns-in_err-registered-clause-refused : goal.returns-in_err-registered-clause-refused
returns-in_err-registered-clause-refused c = any-err _ (keeps _ _ refl refl refl refl refl
    (record { nodes = λ d H s l. s.nodes_stand; slots = λ d H s l. c.in_err-registered.ensures.refused.still H s.slots_stand; requests = λ d H s l. s.requests_stand; sessions = λ d H s l. s.sessions_stand }))

pub returns-in_err-registered-2-clause-refused : goal.returns-in_err-registered-2-clause-refused
returns-in_err-registered-2-clause-refused c = any-err _ (keeps _ _ refl refl refl refl refl
    (record {
      nodes = λ d H s l. c.in_err-registered-2.ensures.refused.still H s.nodes_stand;
      slots = λ d H s l. c.in_ok-registered.ensures.ahead.still d H s.slots_stand l (next-unregistered c.numbered_one_by_one.ensures d H _ l s.counts_nodes);
      requests = λ d H s l. s.requests_stand;
      sessions = λ d H s l. s.sessions_stand;
    }))

pub returns-clause-noted : goal.returns-clause-noted
returns-clause-noted c = λ k. noted c.table_laws.ensures _ _ k _
    (record { nodes = given (c.in_ok-registered-2.ensures.stands k); slots = given (c.in_ok-registered.ensures.stands k); requests = requests-stay c.table_laws.ensures _ k _ refl; sessions = sessions-stay c.table_laws.ensures _ k _ refl })
    (record { nodes = λ d H e l. node-next d H k c.args.self.now.next_node c.args.registration.now c.args.at e; requests = λ d H e l. e; clock = c.not_before-self.ensures; below = λ d H s l. refl; from = refl })
