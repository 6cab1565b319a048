use Rattle.std.proofs.Common.{refl}
use Rattle.hub_tables.proofs.NoteLemmas.{any-err, noted, keeps, request-next, nodes-stay, slots-stay, sessions-stay}
use Rattle.hub_tables.proofs.tables.HubTables.note_queued.Goals as goal

pub returns-in_err-queued-clause-refused : goal.returns-in_err-queued-clause-refused
returns-in_err-queued-clause-refused c = any-err _ (keeps _ _ refl refl refl refl refl
    (record { nodes = λ d H s l. s.nodes_stand; slots = λ d H s l. s.slots_stand; requests = λ d H s l. c.in_err-queued.ensures.refused.still H s.requests_stand; sessions = λ d H s l. s.sessions_stand }))

pub returns-clause-noted : goal.returns-clause-noted
returns-clause-noted c = noted c.table_laws.ensures _ _ _ _
    (record {
      nodes = nodes-stay c.table_laws.ensures _ _ _ refl;
      slots = slots-stay c.table_laws.ensures _ _ _ refl;
      requests = record { after = λ d H g s l. c.in_ok-queued.ensures.stands.after d H c.requires.written s l };
      sessions = sessions-stay c.table_laws.ensures _ _ _ refl;
    })
    (record { nodes = λ d H e l. e; requests = λ d H e l. request-next d H c.args.caller c.args.self.now.next_request c.args.choices c.args.deadline c.args.at e; clock = c.not_before-self.ensures; below = λ d H s l. c.min-self.ensures; from = refl })
